-- The first rows were put.
use Rattle.std.{proofs.Common.{take}, specs.List.{flat_map, range_with_len}}
use Rattle.pc_common.specs.{Writes.{success}, Room.{Puts}}
use Rattle.pattern_reader.specs.Rows.{rows_of}
use Rattle.sweep_command.specs.Texts.{row_text}
use Rattle.sweep_command.proofs.report.put_rows.Given as goal

abbrev pub invariant-loop-row : goal.invariant-loop-row
invariant-loop-row g l =
    Puts g.K.Sink.view l.initial.room l.room success
    (flat_map (row_text l.swept.pattern l.swept.answers.items) (take l.row (range_with_len 0 (rows_of l.swept.pattern))))
