-- The answer of `sweep` to two files, and the status that is due.
use Rattle.std.specs.Prelude.{◌≡◌, ℕ, Bool, true, false, List, Some, Result, length, slice_get, IsTrue}
use Rattle.pc_common.specs.{Outside.{FilesView}, Case.{Case}, declared.{fault.InputFault.{InputFault}, status.Status.{Status, TheVariants.{Done, Refused}}}}
use Rattle.pc_syntax.specs.{Written.{WrittenModel}, Observable.{Observable}}
use Rattle.pattern_reader.specs.Rows.{Pattern, rows_of, row_case}
use Rattle.command_base.specs.declared.{inputs.Inputs.{Inputs as CodeInputs}, ending.Ending.{Ending}}
use Rattle.command_base.specs.{Inputs.{Inputs, Contents, LacksInput, IsFirstInputFault as IsFirstFaultOf, plain_inputs}, Endings.{HasOutcome}}
use Rattle.command_base.specs.{Refusals.{IsInputRefusal}, Outcomes.{IsOutcome}}
use Rattle.sweep_command.specs.{declared.command.Swept.{Swept}, Texts.{sweep_text, swept_text}, Patterns.{IsFirstSweepFault, SaysPattern}}

-- observable exactly where some choice of nodes with some strict order makes every axiom true of the case
abbrev pub IsVerdictOn : WrittenModel → Case → Bool → Type 0
IsVerdictOn m c true = Observable m c
IsVerdictOn m c false = Observable m c → ⊥

-- the text has one verdict for each row, in order, and each is that of its row's case
pub record IsSweep (m : WrittenModel) (p : Pattern) (text : List ℕ) : Type 0 where
  pub verdicts : List Bool
  pub count : length verdicts ≡ rows_of p
  pub each : (k : ℕ) (b : Bool) → slice_get verdicts k ≡ Some b → IsVerdictOn m (row_case p k) b
  pub text_is : text ≡ sweep_text p verdicts

-- the refusal by the first fault, or the sweep of the pattern
pub data AnswersSweep (holds : Contents) (i : Inputs) : Status → List ℕ → Type 0 where
  refused_sweep : {status : Status} {text : List ℕ} → IsInputRefusal IsFirstSweepFault holds i status text
      → AnswersSweep holds i status text
  swept : {m : WrittenModel} {p : Pattern} {text : List ℕ} → SaysPattern holds i m p → IsSweep m p text
      → AnswersSweep holds i Done text

-- done where the two files have no fault, and refused where they have one
pub record IsSweepDue (holds : Contents) (i : Inputs) (status : Status) : Type 0 where
  pub found : (m : WrittenModel) (p : Pattern) → SaysPattern holds i m p → status ≡ Done
  pub fault : (f : InputFault) → IsFirstFaultOf IsFirstSweepFault holds i f → status ≡ Refused

-- the outcome of `sweep`
abbrev pub IsSweepOutcome : {F : Type 0} → (F → FilesView) → Inputs → F → F → Status → List ℕ → Type 0
IsSweepOutcome view i old new status text =
    IsOutcome view ⊥ (IsTrue (view old).modelled) (LacksInput (view old).holds i)
    (AnswersSweep (view old).holds i) old new status text

-- what `sweep` returns: the sweep, or the ending
abbrev pub ReturnsSweep : {F : Type 0} → (F → FilesView) → CodeInputs → F → F → Result Swept Ending → Type 0
ReturnsSweep view i old new result =
    HasOutcome result (λ s. Done) swept_text (IsSweepOutcome view (plain_inputs i) old new)
