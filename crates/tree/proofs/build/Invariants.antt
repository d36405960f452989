-- `tree::build` meets its contract. The loop's invariant: the records from `at` on hold.
use Rattle.tree.specs.Tree.{Built}
use Rattle.tree.proofs.build.Given as goal

abbrev pub invariant-loop-at : goal.invariant-loop-at
invariant-loop-at l = Built l.count l.initial.work l.at l.work
