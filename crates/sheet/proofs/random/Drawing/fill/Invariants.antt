-- `sheet::random::Drawing::fill` meets its contract.
use Rattle.std.proofs.Common.{◌<◌, ◌≡◌}
use Rattle.sheet.proofs.random.Drawing.fill.Given as goal

abbrev pub invariant-loop-term : goal.invariant-loop-term
invariant-loop-term l =
    (goal.iterator-loop-term).can_next l.term-iterator ×
    (goal.iterator-loop-term).is_finite l.term-iterator ×
    (l.xy < 1073741824) ×
    (l.term-iterator.iter.size ≡ 2)
