use borrow.Author.Rules.{rules}
use Rattle.moduli.proofs.Moduli.{modulus_prime, modulus_within}
use Rattle.field.proofs.Operands.{passed-both}
use Rattle.field.proofs.inverses.try_inverse.Goals as goal

pub inverse_mod-requires : goal.inverse_mod-requires
inverse_mod-requires c =
    let h = passed-both c.args.p 0 c.args.a c.args.a c.args.p (search rules) c.in_ok-accept.was in
    (modulus_within h.0, modulus_prime h.0, h.1, h.2)
