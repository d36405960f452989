-- `growth::move_leaves` meets its contract. The loop's invariant: the leaves from `row` on have moved.
use Rattle.growth.specs.Growth.{Moved}
use Rattle.growth.proofs.move_leaves.Given as goal

abbrev pub invariant-loop-row : goal.invariant-loop-row
invariant-loop-row l = Moved l.count l.more l.initial.work l.row l.work
