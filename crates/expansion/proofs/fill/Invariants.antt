-- `expansion::fill` meets its contract. The loop's invariant: n records are written, and the rest waits in the tree, whose greatest key is k.
use mathlib.Core.Path.{◌≡◌}
use lib.ListN.{length}
use Rattle.poly.specs.Words.{word_at}
use Rattle.tree.specs.Tree.{Live}
use Rattle.calls.proofs.Filling.{Filling}
use Rattle.expansion.proofs.Expanding.{waiting}
use Rattle.expansion.proofs.fill.Given as goal

abbrev pub invariant-loop-k : goal.invariant-loop-k
invariant-loop-k l = record {
  live : Live l.rows l.cols l.work;
  as_long : length l.work ≡ length l.initial.work;
  filling : Filling l.p (waiting l.rows l.cols l.initial.work) (waiting l.rows l.cols l.work) l.initial.room l.room l.n;
  key : l.k ≡ word_at l.work 1;
}

abbrev pub decreases-loop-k : goal.decreases-loop-k
decreases-loop-k l = l.k
