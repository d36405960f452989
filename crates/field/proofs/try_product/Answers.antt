use native.Mathlib.Omega.{arith}
use Rattle.moduli.proofs.Moduli.{modulus_within}
use Rattle.field.proofs.Operands.{passed-both}
use Rattle.field.proofs.try_product.Goals as goal

pub mul_mod-requires : goal.mul_mod-requires
mul_mod-requires c =
    let h = passed-both c.args.p c.args.a c.args.p c.args.b c.args.p c.accept_pair.ensures c.in_ok-accept_pair.was in
    let within = modulus_within h.0 in
    (omega arith, omega arith, omega arith)
