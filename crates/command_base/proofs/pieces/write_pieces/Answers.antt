use Rattle.std.proofs.Common.{rules, refl}
use Rattle.pc_common.proofs.Rooms.{room_stop, room_flushed}
use Rattle.command_base.proofs.pieces.write_pieces.Goals as goal

pub returns-in_err-put_all : goal.returns-in_err-put_all
returns-in_err-put_all g c =
    room_stop c.new-room.ensures.out (search rules) c.new-room.ensures.empty refl c.from_residual.ensures.0 c.in_err-put_all.ensures

pub returns : goal.returns
returns g c = room_flushed c.new-room.ensures.out (search rules) c.new-room.ensures.empty refl c.in_ok-put_all.ensures c.flush.ensures
