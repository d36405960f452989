-- `division::test::divides` meets its contract.
use mathlib.Core.Path.{◌≡◌, ◌∙◌, ap}
use mathlib.Core.List.{[], ◌∷◌}
use Rattle.refusals.proofs.Reports.{done_number, refused_number}
use Rattle.refusals.specs.Reports.{none, first_or}
use Rattle.refusals.specs.Rules.{lent, input_terms}
use Rattle.dues.specs.Dues.{with_room}
use Rattle.dues.specs.declared.Due.{Due}
use Rattle.calls.proofs.Refusals.{refused_tells, passed_goes_on}
use Rattle.division.specs.Division.{test_rules, test_of}
use Rattle.quotients.specs.Quotients.{tested}
use Rattle.division.proofs.Walkable.{rules_walkable, all_asked}
use Rattle.division.proofs.test.divides.Goals as goal
use Rattle.division.proofs.test.divides.Goals.{After-first-due}

-- what was asked is the first of the rules 1 to 8
told : (c : After-first-due) →
    let a = c.args in c.first-due.result ≡ first_or (test_rules a.p a.f.now a.g.now a.q.now a.work.now) none
told c =
    let a = c.args in
    let quotient : Due → Due = λ d. with_room d (lent 3 a.q.now input_terms) in
    all_asked a.p a.f.now a.g.now a.q.now a.work.now (lent 3 a.q.now input_terms ∷ [])
    (c.room.ensures ∙ ap quotient c.two_inputs.ensures)
    c.last_rules.ensures
    c.first-due.ensures

pub returns-then-not-is_done : goal.returns-then-not-is_done
unfolding test_of
returns-then-not-is_done c =
    let a = c.args in
    refused_tells (test_rules a.p a.f.now a.g.now a.q.now a.work.now) c.first-due.result (told (goal.at.returns-then-not-is_done c).After-first-due)
    a.q.now [] a.work.now
    (tested a.p a.f.now a.g.now a.q.now a.work.now)
    (refused_number c.first-due.result c.is_done.ensures c.if-not-is_done.true)

pub test_good-requires : goal.test_good-requires
test_good-requires c =
    let a = c.args in
    let W = (rules_walkable a.p a.f.now a.g.now a.q.now a.work.now [] (told (goal.at.test_good-requires c).After-first-due) (done_number c.first-due.result c.is_done.ensures c.if-not-is_done.false)).0 in
    let G = W.good in record {
      inputs = (G.prime, G.within, G.first, G.second, W.some, G.second_short);
      rooms = (W.room_short, W.long);
    }

pub returns : goal.returns
unfolding test_of
returns c =
    let a = c.args in
    c.test_good.ensures
    ∙ passed_goes_on (test_rules a.p a.f.now a.g.now a.q.now a.work.now) c.first-due.result (told (goal.at.returns c).After-first-due) a.q.now [] a.work.now
    (tested a.p a.f.now a.g.now a.q.now a.work.now)
    (done_number c.first-due.result c.is_done.ensures c.if-not-is_done.false)
