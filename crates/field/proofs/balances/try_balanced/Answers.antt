use borrow.Author.Tests.{ltb-true}
use Rattle.moduli.proofs.Moduli.{modulus_within}
use Rattle.field.proofs.Operands.{passed}
use Rattle.field.proofs.balances.try_balanced.Goals as goal

pub balanced_mod-requires : goal.balanced_mod-requires
balanced_mod-requires c =
    let h = passed _ _ c.accept.ensures c.in_ok-accept.was in
    (modulus_within h.0, ltb-true _ _ h.1)
