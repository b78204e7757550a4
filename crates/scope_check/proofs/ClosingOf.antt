-- What is known of a closing: its truth and its stages.
use Rattle.std.proofs.Common.{List, ap, sym, subst, ◌∙◌}
use Rattle.pc_syntax.specs.{declared.model.StageItem.{StageItem}, Written.{Written, stage_numbers}, Closed.{PlainClosed, closed_true}, Closing.{IsClosingOf}}
use Rattle.pc_syntax.{specs.{Scope.{Scope}, StagesWithin.{StagesWithin}}, proofs.{ClosingTruth.{closing_true}, ClosingStages.{closing_within}}}
use Rattle.scope_check.specs.Laws.{ClosingKeepsTruth}

pub closing_keeps : ClosingKeepsTruth
closing_keeps s slots env scope e c same fits h =
    closing_true s slots env scope same fits e h.no_fault ∙ ap (closed_true s.case s.world slots) (sym h.closing)

-- its stages are those of the model
pub closing_stages : (stages : List StageItem) (scope : Scope) (e : Written) (c : PlainClosed) → IsClosingOf stages scope e c
    → StagesWithin (stage_numbers stages) c
closing_stages stages scope e c h =
    subst (StagesWithin (stage_numbers stages)) (sym h.closing) (closing_within stages scope e h.no_fault)
