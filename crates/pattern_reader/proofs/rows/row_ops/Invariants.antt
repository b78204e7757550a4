use Rattle.std.proofs.Common.{◌≡◌, take, map}
use Rattle.pc_case.specs.Plain.{micro_op}
use Rattle.pattern_reader.{specs.Rows.{filled}, proofs.Digits.{value_among}}
use Rattle.pattern_reader.proofs.rows.row_ops.Given as goal

abbrev pub invariant-loop-place : goal.invariant-loop-place
invariant-loop-place l = map micro_op l.copies ≡ filled (value_among l.reads l.row) 0 (map micro_op (take l.place l.ops))
