use Rattle.std.proofs.Common.{rules, refl}
use Rattle.pc_common.proofs.Rooms.{room_stop, room_flushed}
use Rattle.refutation.proofs.writing.write_refutation.Goals as goal

pub returns-in_err-put_steps : goal.returns-in_err-put_steps
returns-in_err-put_steps g c =
    room_stop c.new-room.ensures.out (search rules) c.new-room.ensures.empty refl c.from_residual.ensures.0 c.in_err-put_steps.ensures

pub returns : goal.returns
returns g c = room_flushed c.new-room.ensures.out (search rules) c.new-room.ensures.empty refl c.in_ok-put_steps.ensures c.flush.ensures
