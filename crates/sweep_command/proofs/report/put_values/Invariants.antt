-- The first values were put.
use Rattle.std.{proofs.Common.{take}, specs.List.{flat_map}}
use Rattle.pc_common.specs.{Writes.{success}, Room.{Puts}}
use Rattle.pattern_reader.specs.Rows.{values_in_row}
use Rattle.sweep_command.specs.Texts.{value_text}
use Rattle.sweep_command.proofs.report.put_values.Given as goal

abbrev pub invariant-loop-k : goal.invariant-loop-k
invariant-loop-k g l = Puts g.K.Sink.view l.initial.room l.room success (flat_map value_text (take l.k (values_in_row l.pattern l.row)))
