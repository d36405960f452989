use native.Mathlib.Omega.{arith}
use Rattle.moduli.proofs.Moduli.{modulus_within}
use Rattle.field.proofs.Operands.{passed-both}
use Rattle.field.proofs.try_sum.Goals as goal

pub add_mod-requires : goal.add_mod-requires
add_mod-requires c =
    let h = passed-both c.args.p c.args.a c.args.p c.args.b c.args.p c.accept_pair.ensures c.in_ok-accept_pair.was in
    (modulus_within h.0, omega arith, omega arith)
