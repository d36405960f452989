-- `merging::merge` meets its contract. The loop's invariant: what is written and the normal form of what is unmerged are the whole.
use Prim.Native.Nat.{◌+◌, ◌-◌}
use Rattle.poly.specs.Words.{records}
use Rattle.merging.proofs.Merging.{Merged}
use Rattle.merging.proofs.merge.Given as goal

abbrev pub invariant-loop-i : goal.invariant-loop-i
invariant-loop-i l = Merged l.p l.minus l.a l.b l.initial.room l.room l.i l.j l.n

abbrev pub decreases-loop-i : goal.decreases-loop-i
decreases-loop-i l = records l.a + records l.b - (l.i + l.j)
