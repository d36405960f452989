-- `monomial::divide` meets its contract: the quotient's word is the difference.
use mathlib.Core.Path.{◌∙◌, sym}
use Rattle.monomial.specs.Layout.{base}
use Rattle.monomial.proofs.Laws.{divides_le, quotient-difference}
use Rattle.monomial.proofs.divide.Goals as goal

pub overflow_sub-result : goal.overflow_sub-result
overflow_sub-result c = divides_le base c.args.m c.args.n (sym c.divides.ensures ∙ c.if-divides.true)

pub returns-then-divides : goal.returns-then-divides
returns-then-divides c = sym (quotient-difference base c.args.m c.args.n ∙ rw (sym c.divides.ensures ∙ c.if-divides.true))
