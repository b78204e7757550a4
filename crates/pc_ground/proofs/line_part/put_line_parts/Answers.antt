use Rattle.std.proofs.Common.{refl}
use Rattle.pc_common.proofs.RoomPieces.{puts_failed}
use Rattle.pc_ground.specs.LineParts.{line_part_text}
use Rattle.pc_ground.proofs.line_part.put_line_parts.Goals as goal

pub returns-in_err-put_line_part : goal.returns-in_err-put_line_part
returns-in_err-put_line_part g c =
    puts_failed (line_part_text c.args.names.now) c.args.parts.now c.loop-part.part-index _ c.loop-part-test.true refl c.from_residual.ensures.0
    c.loop-part.invariant (rw c.part-item.is at c.in_err-put_line_part.ensures)
