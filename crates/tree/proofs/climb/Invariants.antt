-- `tree::climb` meets its contract. The loop's invariant: the climb has come to a record, and every record but those above it holds.
use Rattle.tree.proofs.Ways.{Climbing}
use Rattle.tree.proofs.climb.Given as goal

abbrev pub invariant-loop-at : goal.invariant-loop-at
invariant-loop-at l = Climbing l.count l.initial.work l.work l.at l.best

abbrev pub decreases-loop-at : goal.decreases-loop-at
decreases-loop-at l = l.at
