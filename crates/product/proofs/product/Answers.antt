-- `product::product` meets its contract: refused, or multiplied with the shorter factor first.
use Prim.Native.Nat.{◌*◌, ◌≤◌, min}
use mathlib.Core.Path.{◌≡◌, ◌∙◌, ap}
use mathlib.Core.List.{[], ◌∷◌}
use native.Mathlib.Nat.{min-eq_left, min-eq_right}
use native.Mathlib.Omega.{arith}
use lib.ListN.{length}
use Rattle.poly.specs.Words.{records}
use Rattle.refusals.proofs.Reports.{done_number, refused_number}
use Rattle.refusals.specs.Reports.{none, or_else, first_or}
use Rattle.refusals.specs.Rules.{lent, room_terms, work_rule}
use Rattle.refusals.proofs.Reports.{done_number, refused_number}
use Rattle.dues.specs.Dues.{with_room}
use Rattle.dues.specs.declared.Due.{Due}
use Rattle.calls.specs.Inputs.{two_inputs}
use Rattle.calls.proofs.Refusals.{asked, Good, rules_good}
use Rattle.product.proofs.Products.{factors_exchanged, product-refused, product_goes_on, work_suffices}
use Rattle.product.proofs.product.Goals as goal
use Rattle.product.proofs.product.Goals.{After-first-due, Else-not-is_done}

-- what was asked of the slices, and after them
due : (c : After-first-due) → let s = c.args in
    c.first-due.result ≡ first_or (two_inputs s.p s.a.now s.b.now s.room.now) c.or_else-last.result
due c =
    let s = c.args in
    let slice = lent 3 s.room.now room_terms in
    asked s.p s.a.now s.b.now (slice ∷ []) _ _ _
    (c.room.ensures ∙ ap (λ (d : Due). with_room d slice) c.two_inputs.ensures)
    c.first-due.ensures

words : (c : After-first-due) → let s = c.args in 4 * c.min-least.result ≡ 4 * min (records s.a.now) (records s.b.now)
words c = ap (λ n. 4 * n) c.min-least.ensures

work : (c : After-first-due) → let s = c.args in
    c.or_else-last.result ≡ or_else (work_rule (4 * c.min-least.result) s.work.now) none
work c =
    c.or_else-last.ensures ∙ (λ d. or_else (c.work_rule.ensures d) (c.done.ensures d))

pub returns-then-not-is_done : goal.returns-then-not-is_done
returns-then-not-is_done c =
    let s = c.args in
    product-refused _ s.a.now s.b.now s.room.now s.work.now _ _ _ (words (goal.at.returns-then-not-is_done c).After-first-due)
    (due (goal.at.returns-then-not-is_done c).After-first-due) (work (goal.at.returns-then-not-is_done c).After-first-due) (refused_number c.first-due.result c.is_done.ensures c.if-not-is_done.true)

-- the factors are good, and the work is long enough for the shorter one
good : (c : Else-not-is_done) → let s = c.args in
    Good s.p s.a.now s.b.now × (4 * min (records s.a.now) (records s.b.now) ≤ length s.work.now)
good c =
    let s = c.args in
    let g = rules_good s.p s.a.now s.b.now (lent 3 s.room.now room_terms ∷ []) _ c.or_else-last.result (due (goal.at.Else-not-is_done c).After-first-due)
    (done_number c.first-due.result c.is_done.ensures c.if-not-is_done.false) in (
      g.0,
      work_suffices _ s.a.now s.b.now s.room.now s.work.now _ _ _ (words (goal.at.Else-not-is_done c).After-first-due)
          (due (goal.at.Else-not-is_done c).After-first-due) (work (goal.at.Else-not-is_done c).After-first-due) g.2,
    )

pub multiply-requires : goal.multiply-requires
multiply-requires c =
    let g = good (goal.at.multiply-requires c).Else-not-is_done in
    let s = c.args in
    let shorter : records s.a.now ≤ records s.b.now = omega (arith, c.if-a-b.true) in record {
      within = (g.0.positive, g.0.within, shorter, g.0.second_short);
      lent = (omega (arith, g.1, min-eq_left shorter), g.0.first, g.0.second);
    }

pub multiply-requires-else-a-b : goal.multiply-requires-else-a-b
multiply-requires-else-a-b c =
    let g = good (goal.at.multiply-requires-else-a-b c).Else-not-is_done in
    let s = c.args in
    let shorter : records s.b.now ≤ records s.a.now = omega (arith, c.if-a-b.false) in record {
      within = (g.0.positive, g.0.within, shorter, g.0.first_short);
      lent = (omega (arith, g.1, min-eq_right shorter), g.0.second, g.0.first);
    }

pub returns-then-a-b : goal.returns-then-a-b
returns-then-a-b c =
    let s = c.args in
    product_goes_on _ s.a.now s.b.now s.room.now s.work.now _ _ _ (words (goal.at.returns-then-a-b c).After-first-due)
    (due (goal.at.returns-then-a-b c).After-first-due) (work (goal.at.returns-then-a-b c).After-first-due) _ (done_number c.first-due.result c.is_done.ensures c.if-not-is_done.false) c.multiply.ensures

pub returns-else-a-b : goal.returns-else-a-b
returns-else-a-b c =
    let s = c.args in
    product_goes_on _ s.a.now s.b.now s.room.now s.work.now _ _ _ (words (goal.at.returns-else-a-b c).After-first-due)
    (due (goal.at.returns-else-a-b c).After-first-due) (work (goal.at.returns-else-a-b c).After-first-due) _ (done_number c.first-due.result c.is_done.ensures c.if-not-is_done.false)
    (c.multiply-else-a-b.ensures ∙ factors_exchanged _ (good (goal.at.returns-else-a-b c).Else-not-is_done).0.positive s.b.now s.a.now s.room.now s.work.now)
