use Rattle.std.proofs.Common.{rules, refl}
use Rattle.pc_common.proofs.Rooms.{room_stop, room_flushed}
use Rattle.pc_ground.proofs.node_text.NodeText.write.Goals as goal

pub returns-in_err-put : goal.returns-in_err-put
returns-in_err-put g c =
    room_stop c.new-room.ensures.out (search rules) c.new-room.ensures.empty refl c.from_residual.ensures.0 c.in_err-put.ensures

pub returns : goal.returns
returns g c = room_flushed c.new-room.ensures.out (search rules) c.new-room.ensures.empty refl c.in_ok-put.ensures c.flush.ensures
