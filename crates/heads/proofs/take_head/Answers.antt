-- `heads::take_head` meets its contract.
use Prim.Native.Nat.{◌+◌, ◌%◌}
use mathlib.Core.Path.{◌∙◌, ap}
use native.Mathlib.Nat.{le-max_left}
use native.Mathlib.Omega.{arith}
use Rattle.poly.specs.Keys.{key_at}
use Rattle.poly.specs.Words.{word_at}
use Rattle.poly.proofs.Maxima.{words_small}
use Rattle.poly.proofs.Heads.{HeadTaken, head_taken}
use Rattle.heads.proofs.Greatest.{headed}
use Rattle.heads.proofs.take_head.Goals as goal
use Rattle.heads.proofs.take_head.Goals.{After-head_at-h}

pub head_at-h-requires : goal.head_at-h-requires
head_at-h-requires c = (c.requires.within.2, words_small _ _ c.requires.valid.0 _)

-- what the dividend has at the key
head : (c : After-head_at-h) → let a = c.args in HeadTaken a.f.now a.i a.k c.head_at-h.result
head c =
    let a = c.args in
    head_taken a.f.now c.requires.valid.0.falls a.i a.k c.requires.within.2 c.requires.within.4
    (omega (arith, c.requires.within.3, le-max_left (key_at a.f.now a.i) (word_at a.work.now 1)))
    c.head_at-h.result
    c.head_at-h.ensures

pub returns : goal.returns
returns c =
    headed c.requires.within.0 c.requires.valid.0 c.requires.valid.1 c.requires.live.0 c.requires.within.4 c.requires.within.2 c.requires.within.3
    c.requires.live.1
    c.take_at.ensures.0
    c.head_at-h.ensures
    c.take_at.ensures.1
    c.add_mod.result
    (c.add_mod.ensures ∙ ap (λ x. (c.head_at-h.result.coef + x) % c.args.p) c.neg_mod-minus.ensures)
