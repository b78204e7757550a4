use Rattle.std.proofs.Common.{rules, refl}
use Rattle.pc_common.proofs.Rooms.{room_stop, room_flushed}
use Rattle.gen_command.proofs.report.write_report.Goals as goal

pub returns-in_err-put_report : goal.returns-in_err-put_report
returns-in_err-put_report g c =
    room_stop c.new-room.ensures.out (search rules) c.new-room.ensures.empty refl c.from_residual.ensures.0 c.in_err-put_report.ensures

pub returns : goal.returns
returns g c = room_flushed c.new-room.ensures.out (search rules) c.new-room.ensures.empty refl c.in_ok-put_report.ensures c.flush.ensures
