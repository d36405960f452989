-- `quotients::walk_in_rooms` meets its contract.
use Rattle.std.proofs.Common.{rules}
use Rattle.quotients.proofs.WalkedRooms.{rooms_left}
use Rattle.quotients.proofs.walk_in_rooms.Goals as goal

pub returns : goal.returns
returns c =
    let a = c.args in
    rooms_left a.q.now a.r.now a.work.now c.clear.ensures c.run-end.ensures c.map.result c.map-2.result c.map-3.result
    c.clear-2.ensures
    c.leave.ensures
    c.leave-2.ensures
    c.told.ensures
    (search rules)
    (search rules)
    (search rules)
