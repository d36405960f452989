-- `tree::take` meets its contract. The loop's invariant: `sum` is what was taken so far, and `node` the next record to take.
use lib.ListN.{length}
use Rattle.poly.specs.Words.{records}
use Rattle.tree.specs.Tree.{awaited}
use Rattle.tree.proofs.Taking.{Taking}
use Rattle.tree.proofs.take.Given as goal

abbrev pub invariant-loop-node : goal.invariant-loop-node
invariant-loop-node l = Taking l.rows l.cols l.p l.k l.initial.work l.work l.sum l.node

abbrev pub decreases-loop-node : goal.decreases-loop-node
decreases-loop-node l = length (awaited l.rows l.cols l.work 0 (records l.rows))
