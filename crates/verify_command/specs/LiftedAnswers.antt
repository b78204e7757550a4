-- The answer of `verify-lifted` to three files, and the status that is due.
use Rattle.std.specs.Prelude.{◌≡◌, ℕ, List, Some, Result}
use Rattle.pc_common.specs.{Outside.{FilesView}, Case.{Case}, declared.{fault.InputFault.{InputFault}, status.Status.{Status}}}
use Rattle.pc_syntax.specs.Written.{WrittenModel}
use Rattle.lifted_check.specs.{declared.lifted.Lifted.{Lifted}, LiftedTexts.{Question}, Fed.{IsFound}}
use Rattle.command_base.specs.{declared.{inputs.Inputs.{Inputs as CodeInputs}, ending.Ending.{Ending}}, Inputs.{Inputs, Contents, plain_inputs}}
use Rattle.command_base.specs.{Endings.{HasOutcome}, Outcomes.{IsThirdOutcome}, FileAnswers.{AnswersFiles, IsDueOfFiles}, LiftedQuestions.{lifted_question}}
use Rattle.verify_command.specs.LiftedTexts.{lifted_status, lifted_text}

-- what the third file is to the model and the case
pub data IsJudged (holds : Contents) (certificate : List ℕ) (m : WrittenModel) (c : Case) : Status → List ℕ → Type 0 where
  judged : {bytes : List ℕ} {found : Lifted} → holds certificate ≡ Some bytes → IsFound (lifted_question m c) bytes found
      → IsJudged holds certificate m c (lifted_status found) (lifted_text found)

-- the status is that of the one thing that a text is to a question
pub record IsStatusOf (q : Question) (text : List ℕ) (status : Status) : Type 0 where
  pub found : Lifted
  pub is : IsFound q text found
  pub only : (other : Lifted) → IsFound q text other → other ≡ found
  pub status_is : status ≡ lifted_status found

-- the status of what the third file holds
abbrev pub IsDueCheck : Contents → List ℕ → WrittenModel → Case → Status → Type 0
IsDueCheck holds certificate m c status = (bytes : List ℕ) → holds certificate ≡ Some bytes → IsStatusOf (lifted_question m c) bytes status

module _ (case_of : List ℕ → Case → Type 0) (first_fault : List ℕ → List ℕ → InputFault → Type 0) (holds : Contents) (i : Inputs) (certificate : List ℕ) where
  -- the refusal by the first fault, or what the third file is
  abbrev pub AnswersLifted : Status → List ℕ → Type 0
  AnswersLifted = AnswersFiles case_of first_fault holds i (IsJudged holds certificate)

  abbrev pub IsLiftedDue : Status → Type 0
  IsLiftedDue = IsDueOfFiles case_of first_fault holds i (IsDueCheck holds certificate)

-- what `verify-lifted` returns: what the third file is, or the ending
abbrev pub ReturnsLifted : {F : Type 0} → (F → FilesView) → (List ℕ → Case → Type 0)
    → (List ℕ → List ℕ → InputFault → Type 0) → CodeInputs → List ℕ → F → F → Result Lifted Ending → Type 0
ReturnsLifted view case_of first_fault i third old new result =
    HasOutcome result lifted_status lifted_text
    (IsThirdOutcome view case_of first_fault (plain_inputs i) third (IsJudged (view old).holds third) old new)
