use Rattle.litmus_reader.{specs.Content.{First, OverCore, OverMany, SplitFrom, DuplicateOf, SomeEarlier}, proofs.RowFacts.{first-none, never-of}}
use Rattle.litmus_reader.proofs.rows.head_fault.Goals as goal

pub returns : goal.returns
returns c =
    let before = c.args.before.now in
    let h = c.args.head in
    let Last = SomeEarlier before (DuplicateOf h) in
    let Splits = SomeEarlier before (SplitFrom h) in
    first-none (OverCore h) (First (OverMany before h) (First Splits Last))
    (never-of (OverCore h) c.core_number.result c.in_default.is c.core_number.ensures) c.duplicate_op.result
    (first-none (OverMany before h) (First Splits Last)
    (never-of (OverMany before h) c.too_many_ops.result c.in_default-too_many_ops.is c.too_many_ops.ensures) c.duplicate_op.result
    (first-none Splits Last (never-of Splits c.split_instruction.result c.in_default-split_instruction.is c.split_instruction.ensures)
    c.duplicate_op.result c.duplicate_op.ensures))
