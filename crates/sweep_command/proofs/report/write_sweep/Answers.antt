use Rattle.std.proofs.Common.{rules, refl}
use Rattle.pc_common.proofs.Rooms.{room_stop, room_flushed}
use Rattle.sweep_command.proofs.report.write_sweep.Goals as goal

pub returns-in_err-put_sweep : goal.returns-in_err-put_sweep
returns-in_err-put_sweep g c =
    room_stop c.new-room.ensures.out (search rules) c.new-room.ensures.empty refl c.from_residual.ensures.0 c.in_err-put_sweep.ensures

pub returns : goal.returns
returns g c = room_flushed c.new-room.ensures.out (search rules) c.new-room.ensures.empty refl c.in_ok-put_sweep.ensures c.flush.ensures
