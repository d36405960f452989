-- `merging::greatest_left` meets its contract: of the records in front it takes the one with the greater key, and both where they have one key.
use Rattle.std.proofs.Common.{rules, ◌≡◌, max}
use Rattle.poly.proofs.Maxima.{words_small}
use Rattle.merging.proofs.Merging.{front_some, greatest_both, greatest_one}
use Rattle.merging.proofs.greatest_left.Goals as goal

pub front_at-x-requires : goal.front_at-x-requires
front_at-x-requires c = words_small _ _ c.requires.valid.0 _

pub front_at-y-requires : goal.front_at-y-requires
front_at-y-requires c = words_small _ _ c.requires.valid.1 _

pub returns-then-x-y : goal.returns-then-x-y
returns-then-x-y c =
    let a = c.args in
    let some = front_some a.a.now a.b.now _ _ _ _ c.front_at-x.ensures c.front_at-y.ensures c.requires.within.4 c.if-x-y.true in
    greatest_both a.a.now a.b.now _ _ _ _ c.front_at-x.ensures c.front_at-y.ensures _ _ c.requires.within.0 c.requires.valid.0 c.requires.valid.1
    c.requires.within.2 c.requires.within.3 _ c.signed_coef-d.ensures some c.if-x-y.true _ c.add_mod.ensures

pub returns : goal.returns
returns c =
    let a = c.args in
    let top : c.max.result ≡ max c.front_at-x.result.key c.front_at-y.result.key = search rules in
    greatest_one a.a.now a.b.now _ _ _ _ c.front_at-x.ensures c.front_at-y.ensures _ _ c.requires.within.0 c.requires.valid.0 c.requires.valid.1
    c.requires.within.2 c.requires.within.3 _ c.signed_coef-d.ensures c.if-x-y.false _ _ _ _
    top c.choose.ensures c.from.ensures c.from-2.ensures
