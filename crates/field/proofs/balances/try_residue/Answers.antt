use mathlib.Core.Bool.{true}
use native.Mathlib.Omega.{arith}
use Rattle.moduli.proofs.Moduli.{modulus_prime, modulus_within}
use Rattle.field.proofs.Operands.{passed}
use Rattle.field.proofs.balances.try_residue.Goals as goal

pub residue_mod-requires : goal.residue_mod-requires
residue_mod-requires c =
    let h = passed c.args.p true c.accept.ensures c.in_ok-accept.was in
    let two = (modulus_prime h.0).two in
    (modulus_within h.0, omega arith)
