-- `tree::plant` meets its contract. The loop's invariant: the leaves of the rows up to i are planted.
use Rattle.tree.specs.Tree.{Planted}
use Rattle.tree.proofs.plant.Given as goal

abbrev pub invariant-loop-i : goal.invariant-loop-i
invariant-loop-i l = Planted l.rows l.first l.initial.work l.i l.work
