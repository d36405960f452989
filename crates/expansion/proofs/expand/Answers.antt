-- `expansion::expand` meets its contract: without rows there is nothing, else the tree is started and emptied into the room.
use Prim.Native.Nat.{◌<◌, ◌^◌}
use mathlib.Core.Path.{subst}
use native.Mathlib.Nat.{pos_of_ne-zero}
use native.Mathlib.Omega.{arith}
use Rattle.poly.specs.Words.{records}
use Rattle.poly.proofs.Maxima.{words_small}
use Rattle.calls.specs.Endings.{Filled}
use Rattle.expansion.proofs.Bursts.{sides}
use Rattle.expansion.proofs.expand.Goals as goal
use Rattle.expansion.proofs.expand.Goals.{Else-rows-eq0}

-- both factors have terms
some : (c : Else-rows-eq0) → 0 < records c.args.rows.now
some c = pos_of_ne-zero c.if-rows-eq0.false

more : (c : Else-rows-eq0) → 0 < records c.args.cols.now
more c = omega (arith, some c, c.requires.within.2)

pub start-requires : goal.start-requires
start-requires c = record {
  within = (more (goal.at.start-requires c).Else-rows-eq0, omega (arith, c.requires.within.2, c.requires.within.3), c.requires.lent.0);
  words = (words_small _ _ c.requires.lent.1, words_small _ _ c.requires.lent.2 0 (more (goal.at.start-requires c).Else-rows-eq0));
}

pub fill-requires : goal.fill-requires
fill-requires c =
    let few : records c.args.cols.now < 2 ^ 32 = omega (arith, c.requires.within.3) in
    let fewer : records c.args.rows.now < 2 ^ 32 = omega (arith, c.requires.within.2, c.requires.within.3) in record {
      within = (c.requires.within.0, c.requires.within.1, some (goal.at.fill-requires c).Else-rows-eq0);
      valid = (c.requires.lent.2, sides _ _ _ c.requires.lent.1 c.requires.lent.2 fewer few);
      live = c.start.ensures.live;
    }

pub returns : goal.returns
returns c =
    let s = c.args in
    subst (λ f. Filled s.p f s.room.now c.fill.new.room c.fill.result) c.start.ensures.whole c.fill.ensures
