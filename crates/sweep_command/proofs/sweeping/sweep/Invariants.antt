-- The rows so far have their answers.
use Rattle.std.proofs.Common.{◌≡◌, ℕ, Bool, Some, length, slice_get}
use Rattle.pc_ground.specs.Stages.{plain_axioms}
use Rattle.pattern_reader.specs.Rows.{row_case}
use Rattle.sweep_command.specs.Sweeps.{IsAnswerTo}
use Rattle.sweep_command.proofs.sweeping.sweep.Given as goal

abbrev pub invariant-loop-row : goal.invariant-loop-row
invariant-loop-row l =
    (length l.answers.items ≡ l.row)
    × ((k : ℕ) (b : Bool) → slice_get l.answers.items k ≡ Some b → IsAnswerTo (plain_axioms l.axioms) (row_case l.pattern k) b)
