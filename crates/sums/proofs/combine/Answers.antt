-- `sums::combine` meets its contract: refused, or merged and left with its reply.
use mathlib.Core.Path.{◌≡◌, ◌∙◌, ap}
use mathlib.Core.List.{[], ◌∷◌}
use lib.ListN.{length}
use borrow.Author.Rules.{rules}
use Rattle.refusals.specs.Reports.{none, first_or}
use Rattle.refusals.specs.Rules.{lent, room_terms}
use Rattle.refusals.proofs.Reports.{done_number}
use Rattle.dues.specs.Dues.{with_room}
use Rattle.dues.specs.declared.Due.{Due}
use Rattle.refusals.proofs.Accepted.{Shaped, Each}
use Rattle.calls.specs.Inputs.{two_inputs}
use Rattle.calls.proofs.Refusals.{asked, Good, rules_good}
use Rattle.std.specs.Result.{result_map_both}
use Rattle.sums.proofs.Combining.{combine-ends, combine_goes_on}
use Rattle.sums.proofs.combine.Goals as goal
use Rattle.sums.proofs.combine.Goals.{After-first-due, Else-not-is_done}

-- what was asked of the slices is the first of the rules that is due
due : (c : After-first-due) → let s = c.args in c.first-due.result ≡ first_or (two_inputs s.p s.a.now s.b.now s.room.now) none
due c =
    let s = c.args in
    let slice = lent 3 s.room.now room_terms in
    asked s.p s.a.now s.b.now (slice ∷ []) _ _ _
    (c.room.ensures ∙ ap (λ (d : Due). with_room d slice) c.two_inputs.ensures)
    c.first-due.ensures
    ∙ ap (first_or (two_inputs s.p s.a.now s.b.now s.room.now)) c.done.ensures

good : (c : Else-not-is_done) → let s = c.args in
    Good s.p s.a.now s.b.now × Each (λ x. Shaped x) (lent 3 s.room.now room_terms ∷ []) × (none.number ≡ 0)
good c =
    let s = c.args in
    rules_good s.p s.a.now s.b.now (lent 3 s.room.now room_terms ∷ []) _ none (due (goal.at.Else-not-is_done c).After-first-due)
    (done_number c.first-due.result c.is_done.ensures c.if-not-is_done.false)

pub merge-requires : goal.merge-requires
merge-requires c =
    let g = good (goal.at.merge-requires c).Else-not-is_done in record {
      within = (g.0.positive, g.0.within, g.1.0.even);
      valid = (g.0.first, g.0.second);
    }

pub returns : goal.returns
returns c =
    let s = c.args in
    let g = (good (goal.at.returns c).Else-not-is_done).0 in
    let made : c.map.result ≡ result_map_both (λ n. (n, 0)) (λ reason. reason) c.room_reply-end.result = search rules in
    let same : length c.merge.new.room ≡ length s.room.now = search rules in
    combine_goes_on _ s.minus s.a.now s.b.now s.room.now _ (due (goal.at.returns c).After-first-due)
    (done_number c.first-due.result c.is_done.ensures c.if-not-is_done.false) _
    (combine-ends _ s.minus s.a.now s.b.now g.positive g.first g.second s.room.now _ _ _ _ _ _ same
    c.merge.ensures c.room_reply-end.ensures.value c.ok.ensures.value c.leave.ensures made c.told.ensures)
