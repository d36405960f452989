-- `tree::climb` meets its contract.
use mathlib.Core.Path.{sym, ◌∙◌, ap}
use mathlib.Core.Logic.{inr}
use Rattle.tree.specs.declared.Node.{Node}
use Rattle.tree.proofs.Ways.{beside_within, beside_from, settled_beside, climb-steps, climb-ends}
use Rattle.tree.proofs.climb.Goals as goal

pub returns-then-other-k : goal.returns-then-other-k
returns-then-other-k c =
    let l = c.loop-at in
    climb-ends _ _ _ _ _ _ _ _ _ _ c.requires.within.0 c.requires.within.1 c.requires.within.2 c.put.ensures l.invariant
    (beside_from l.at c.loop-at-test.true)
    (beside_within _ l.at l.invariant.within)
    (settled_beside _ _ l.at l.invariant.settled)
    (inr (ap (λ (x : Node). x.key) (sym c.at-other.ensures) ∙ c.if-other-k.true))

pub loop-at-preserved : goal.loop-at-preserved
loop-at-preserved c =
    climb-steps _ _ _ _ _ _ _ _ c.loop-at.invariant c.loop-at-test.true c.at-other.ensures c.better-best.ensures c.put-in-loop-at.ensures
