use Rattle.std.proofs.Common.{subst, sym}
use Rattle.litmus_reader.specs.{Content.{MarkFault}, Rows.{Answers}, declared.item.ValueText.{ValueText}}
use Rattle.litmus_reader.proofs.marks.mark_fault.Goals as goal

pub returns-in-Entry : goal.returns-in-Entry
returns-in-Entry c =
    subst (λ (v : ValueText). Answers (MarkFault v) c.marks_fault.result) (sym c.in-Entry.is) c.marks_fault.ensures
