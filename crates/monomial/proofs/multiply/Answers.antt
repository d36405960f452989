-- `monomial::multiply` meets its contract: both words are tested at once, then their sum.
use Prim.Native.Nat.{◌+◌, ◌^◌, ◌<◌}
use mathlib.Core.Path.{◌∙◌, sym}
use Rattle.monomial.specs.Layout.{base}
use Rattle.monomial.proofs.Laws.{sum_below}
use Rattle.monomial.proofs.Masks.{both_monomials, sum_tested}
use Rattle.monomial.proofs.multiply.Goals as goal
use Rattle.monomial.proofs.multiply.Goals.{Then-is_monomial, else-is_monomial-via-then-is_monomial+else-is_monomial-2, else-is_monomial-via-else-is_monomial}

below : (c : Then-is_monomial) → c.args.m + c.args.n < 2 ^ 64
below c =
    let h = both_monomials 15 4 c.args.m c.args.n (sym c.is_monomial.ensures ∙ c.if-is_monomial.true) in
    sum_below base c.args.m c.args.n h.0 h.1

pub overflow_add-m : goal.overflow_add-m
overflow_add-m c = record { fits = below c }

pub overflow_add-result : goal.overflow_add-result
overflow_add-result c = record { fits = below c.before.before }

pub returns-then-is_monomial-2 : goal.returns-then-is_monomial-2
returns-then-is_monomial-2 c =
    sym (sum_tested 15 4 c.args.m c.args.n c.ranges.m.fits c.ranges.n.fits
    ∙ rw (sym c.is_monomial.ensures ∙ c.if-is_monomial.true, sym c.is_monomial-then-is_monomial.ensures ∙ c.if-is_monomial-2.true))

pub returns-else-is_monomial : goal.returns-else-is_monomial
returns-else-is_monomial c =
    sym (sum_tested 15 4 c.args.m c.args.n c.ranges.m.fits c.ranges.n.fits
    ∙ elim c.else-is_monomial.branch [
      | else-is_monomial-via-then-is_monomial+else-is_monomial-2 w ↦
          rw (sym c.is_monomial.ensures ∙ w.if-is_monomial.true, sym w.is_monomial-then-is_monomial.ensures ∙ w.if-is_monomial-2.false)
      | else-is_monomial-via-else-is_monomial w ↦ rw (sym c.is_monomial.ensures ∙ w.if-is_monomial.false)
    ])
