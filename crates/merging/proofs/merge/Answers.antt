use native.Mathlib.Omega.{arith}
use Rattle.merging.proofs.Merging.{merge_skips, merge_writes, merge_full}
use Rattle.merging.proofs.merge.Goals as goal

pub returns-then-n-most : goal.returns-then-n-most
returns-then-n-most c =
    merge_full _ _ _ _ _ c.requires.within.0 _ _ _ _ _ c.loop-i.invariant c.greatest_left-next.ensures c.if-next-ne0.true
    (omega (arith, c.loop-i.invariant.filling.as_long))

pub loop-i-preserved-then-next-ne0 : goal.loop-i-preserved-then-next-ne0
loop-i-preserved-then-next-ne0 c =
    let m = c.loop-i.invariant in
    merge_writes _ _ _ _ _ c.requires.within.0 _ _ _ _ _ m c.greatest_left-next.ensures _ c.put_term.ensures
    c.if-next-ne0.true (omega (arith, m.filling.as_long, m.filling.within))

pub loop-i-preserved : goal.loop-i-preserved
loop-i-preserved c =
    merge_skips _ _ _ _ _ c.requires.within.0 _ _ _ _ _ c.loop-i.invariant c.greatest_left-next.ensures c.if-next-ne0.false
