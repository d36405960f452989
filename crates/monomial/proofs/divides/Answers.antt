-- `monomial::divides` meets its contract: both words are tested at once, then what is left of the guard bits after the difference.
use mathlib.Core.Path.{◌≡◌, ◌∙◌, sym}
use mathlib.Core.Bool.{true}
use Rattle.monomial.specs.Layout.{base, is_monomial}
use Rattle.monomial.proofs.Masks.{both_monomials, lent_covers, mask_divides, divides-none}
use Rattle.monomial.proofs.divides.Goals as goal
use Rattle.monomial.proofs.divides.Goals.{Then-is_monomial}

monomials : (c : Then-is_monomial) → (is_monomial base c.args.m ≡ true) × (is_monomial base c.args.n ≡ true)
monomials c = both_monomials 15 4 c.args.m c.args.n (sym c.is_monomial.ensures ∙ c.if-is_monomial.true)

pub overflow_sub-result : goal.overflow_sub-result
overflow_sub-result c = lent_covers 15 4 c.args.m c.args.n (monomials c).0 (monomials c).1

pub returns-then-is_monomial : goal.returns-then-is_monomial
returns-then-is_monomial c = mask_divides 15 4 c.args.m c.args.n (monomials c).0 (monomials c).1

pub returns-else-is_monomial : goal.returns-else-is_monomial
returns-else-is_monomial c =
    c.if-is_monomial.false ∙ sym (divides-none 15 4 c.args.m c.args.n (sym c.is_monomial.ensures ∙ c.if-is_monomial.false))
