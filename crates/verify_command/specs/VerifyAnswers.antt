-- The answer of `verify` to three files, and the status that is due.
use Rattle.std.specs.Prelude.{◌≡◌, ℕ, List, Some, Result}
use Rattle.pc_common.specs.{Outside.{FilesView}, Case.{Case}, declared.{fault.InputFault.{InputFault}, status.Status.{Status}}}
use Rattle.pc_syntax.specs.Written.{WrittenModel}
use Rattle.cert_check.specs.{declared.checked.Checked.{Checked}, Certificates.{Question}, Verified.{Verified}}
use Rattle.command_base.specs.{declared.{inputs.Inputs.{Inputs as CodeInputs}, ending.Ending.{Ending}}, Inputs.{Inputs, Contents, plain_inputs}}
use Rattle.command_base.specs.{Endings.{HasOutcome}, Outcomes.{IsThirdOutcome}, Questions.{question_by}, FileAnswers.{AnswersFiles, IsDueOfFiles}}
use Rattle.command_base.specs.CheckedTexts.{checked_status, checked_text}

-- what the third file is to the model and the case
pub data IsJudged (holds : Contents) (certificate : List ℕ) (m : WrittenModel) (c : Case)
    : Status → List ℕ → Type 0 where
  judged : {bytes : List ℕ} {found : Checked} → holds certificate ≡ Some bytes → Verified (question_by m c) bytes found
      → IsJudged holds certificate m c (checked_status found) (checked_text found)

-- the status is that of the one thing that a text is to a question
pub record IsStatusOf (q : Question) (text : List ℕ) (status : Status) : Type 0 where
  pub found : Checked
  pub verified : Verified q text found
  pub only : (other : Checked) → Verified q text other → other ≡ found
  pub status_is : status ≡ checked_status found

-- the status of what the third file holds
abbrev pub IsDueCheck : Contents → List ℕ → WrittenModel → Case → Status → Type 0
IsDueCheck holds certificate m c status = (bytes : List ℕ) → holds certificate ≡ Some bytes
    → IsStatusOf (question_by m c) bytes status

module _ (case_of : List ℕ → Case → Type 0) (first_fault : List ℕ → List ℕ → InputFault → Type 0) (holds : Contents)
    (i : Inputs) (certificate : List ℕ) where
  -- the refusal by the first fault, or what the third file is
  abbrev pub AnswersVerify : Status → List ℕ → Type 0
  AnswersVerify = AnswersFiles case_of first_fault holds i (IsJudged holds certificate)

  abbrev pub IsVerifyDue : Status → Type 0
  IsVerifyDue = IsDueOfFiles case_of first_fault holds i (IsDueCheck holds certificate)

-- what `verify` returns: what the third file is, or the ending
abbrev pub ReturnsChecked : {F : Type 0} → (F → FilesView) → (List ℕ → Case → Type 0)
    → (List ℕ → List ℕ → InputFault → Type 0) → CodeInputs → List ℕ → F → F → Result Checked Ending → Type 0
ReturnsChecked view case_of first_fault i third old new result =
    HasOutcome result checked_status checked_text
    (IsThirdOutcome view case_of first_fault (plain_inputs i) third (IsJudged (view old).holds third) old new)
