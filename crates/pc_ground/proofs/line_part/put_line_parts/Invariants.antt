-- The first parts were put.
use Rattle.std.{proofs.Common.{take}, specs.List.{flat_map}}
use Rattle.pc_common.specs.{Writes.{success}, Room.{Puts}}
use Rattle.pc_ground.specs.LineParts.{line_part_text}
use Rattle.pc_ground.proofs.line_part.put_line_parts.Given as goal

abbrev pub invariant-loop-part : goal.invariant-loop-part
invariant-loop-part g l =
    Puts g.K.Sink.view l.initial.room l.room success (flat_map (line_part_text l.names) (take l.part-index l.parts))
