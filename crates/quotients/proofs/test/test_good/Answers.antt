-- `quotients::test::test_good` meets its contract.
use mathlib.Core.List.{[]}
use Rattle.quotients.proofs.WalkedRooms.{planned, tested_alone}
use Rattle.quotients.proofs.test.test_good.Goals as goal

pub returns : goal.returns
returns c =
    let a = c.args in
    let known = c.prepare-plan.ensures in
    tested_alone a.p a.f.now a.g.now a.q.now a.work.now
    (planned c.prepare-plan.result a.q.now [] a.work.now c.walk_in_rooms.ensures known.inputs known.judge)
    c.walk_in_rooms.auto.r
