-- `walk::run` meets its contract. The loop's invariant: what is written, and the walk on from what remains, are the whole
-- walk; the tree has the front of the quotient room as its rows.
use Rattle.walk.proofs.Looping.{Running}
use Rattle.walk.proofs.run.Given as goal

abbrev pub invariant-loop-k : goal.invariant-loop-k
invariant-loop-k l = Running l.plan l.initial.q l.initial.r l.initial.work l.q l.r l.work l.rows l.s l.k

abbrev pub decreases-loop-k : goal.decreases-loop-k
decreases-loop-k l = l.k
