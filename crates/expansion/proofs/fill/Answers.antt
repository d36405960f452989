-- `expansion::fill` meets its contract.
use mathlib.Core.Path.{sym, ◌∙◌, ap}
use native.Mathlib.Omega.{arith}
use Rattle.calls.proofs.Filling.{fill_skips, fill_writes, fill_full, fill-ends}
use Rattle.tree.proofs.Planting.{awaited-none}
use Rattle.tree.specs.declared.Node.{Node}
use Rattle.expansion.proofs.Expanding.{taken-step}
use Rattle.expansion.proofs.fill.Goals as goal
use Rattle.expansion.proofs.fill.Goals.{then-c-ne0+else-n-room, else-c-ne0}

pub returns-then-n-room : goal.returns-then-n-room
returns-then-n-room c =
    let l = c.loop-k.invariant in
    fill_full _ c.requires.within.0 _ _ _ _ _ _ _ _ l.filling (taken-step _ _ _ c.requires.valid.0.falls _ _ _ _ l.key c.take-c.ensures)
    c.if-c-ne0.true c.if-n-room.true

pub loop-k-preserved : goal.loop-k-preserved
loop-k-preserved c =
    let l = c.loop-k.invariant in
    let s = c.args in
    let step = taken-step _ _ _ c.requires.valid.0.falls _ _ _ _ l.key c.take-c.ensures in
    record {
      live = c.take-c.ensures.live;
      as_long = c.take-c.ensures.as_long ∙ l.as_long;
      filling =
          elim c.if-c-ne0.branch [
            | then-c-ne0+else-n-room w ↦ rw w.n-is
                (fill_writes _ c.requires.within.0 _ _ _ _ _ _ _ _ l.filling step _ (w.room-is ∙ w.put_term.ensures) w.if-c-ne0.true
                (omega (arith, l.filling.within, w.if-n-room.false)))
            | else-c-ne0 w ↦ rw (w.room-is, w.n-is) (fill_skips _ c.requires.within.0 _ _ _ _ _ _ _ _ l.filling step w.if-c-ne0.false)
          ];
      key = ap (λ (x : Node). x.key) c.at-k-in-loop-k.ensures;
    }

pub returns : goal.returns
returns c =
    let l = c.loop-k.invariant in
    fill-ends _ c.requires.within.0 _ _ _ _ _ l.filling (awaited-none _ _ c.loop-k.work l.live (sym l.key ∙ c.loop-k-test.false))
