use Rattle.std.{proofs.Common.{◌∙◌, sym, ap, refl}, specs.Prelude.{slice_get}}
use Rattle.tree_check.proofs.OrRows.{row_never, never_row}
use Rattle.tree_check.proofs.root.is_false.Goals as goal

pub returns-in-False : goal.returns-in-False
returns-in-False c = λ t flat. (λ h. row_never t c.row.result (ap (λ xs. slice_get xs 0) (sym flat) ∙ c.row.ensures.row) c.in-False.is, λ h. refl)

pub returns-in_default : goal.returns-in_default
returns-in_default c = λ t flat.
    (λ h. cc, λ e. absurd (c.in_default.not-False (never_row t c.row.result (ap (λ xs. slice_get xs 0) (sym flat) ∙ c.row.ensures.row) e)))
