-- The answer of `lift` to three files, and the status that is due.
use Rattle.std.specs.Prelude.{◌≡◌, ℕ, List, Some, Result}
use Rattle.pc_common.specs.{Outside.{FilesView}, Case.{Case}, declared.{fault.InputFault.{InputFault}, status.Status.{Status}}}
use Rattle.pc_common.specs.declared.status.Status.TheVariants.{Observable as is_observable, Done, CertRefused}
use Rattle.pc_syntax.specs.Written.{WrittenModel}
use Rattle.cert_check.specs.{Certificates.{Question}, Ones.{IsOne}, declared.one.One.{One, TheVariants.{Graph, Tree, Refused}}}
use Rattle.command_base.specs.{declared.{inputs.Inputs.{Inputs as CodeInputs}, ending.Ending.{Ending}}, Inputs.{Inputs, Contents, plain_inputs}}
use Rattle.command_base.specs.{Endings.{HasOutcome}, Outcomes.{IsThirdOutcome}, Questions.{question_by}, FileAnswers.{AnswersFiles, IsDueOfFiles}}
use Rattle.command_base.specs.LiftedQuestions.{lifted_question}
use Rattle.lift_command.specs.{declared.lifting.FoundLift.{FoundLift}, Lifts.{IsLiftOf}, LiftTexts.{lift_status, lift_text}}

-- what the third file is made into, for the model and the case
pub data IsLifted (holds : Contents) (certificate : List ℕ) (m : WrittenModel) (c : Case) : Status → List ℕ → Type 0 where
  lifted : {bytes : List ℕ} (found : FoundLift) → holds certificate ≡ Some bytes
      → IsLiftOf (question_by m c) (lifted_question m c) bytes found
      → IsLifted holds certificate m c (lift_status found) (lift_text found)

-- a graph and a refutation are no fault; a text that the rules of version 1 refuse is one
abbrev pub one_status : One → Status
one_status Graph = is_observable
one_status (Tree steps) = Done
one_status (Refused n) = CertRefused

-- the status is that of all that the text is by the rules of version 1, which is something
pub record IsStatusOf (q : Question) (text : List ℕ) (status : Status) : Type 0 where
  pub found : One
  pub is : IsOne q text found
  pub only : (other : One) → IsOne q text other → one_status other ≡ status
  pub status_is : status ≡ one_status found

-- the status of what the third file holds
abbrev pub IsDueLift : Contents → List ℕ → WrittenModel → Case → Status → Type 0
IsDueLift holds certificate m c status = (bytes : List ℕ) → holds certificate ≡ Some bytes → IsStatusOf (question_by m c) bytes status

module _ (case_of : List ℕ → Case → Type 0) (first_fault : List ℕ → List ℕ → InputFault → Type 0) (holds : Contents) (i : Inputs) (certificate : List ℕ) where
  -- the refusal by the first fault, or what the third file is made into
  abbrev pub AnswersLift : Status → List ℕ → Type 0
  AnswersLift = AnswersFiles case_of first_fault holds i (IsLifted holds certificate)

  abbrev pub IsLiftDue : Status → Type 0
  IsLiftDue = IsDueOfFiles case_of first_fault holds i (IsDueLift holds certificate)

-- what `lift` returns: what the third file is made into, or the ending
abbrev pub ReturnsLift : {F : Type 0} → (F → FilesView) → (List ℕ → Case → Type 0)
    → (List ℕ → List ℕ → InputFault → Type 0) → CodeInputs → List ℕ → F → F → Result FoundLift Ending → Type 0
ReturnsLift view case_of first_fault i third old new result =
    HasOutcome result lift_status lift_text
    (IsThirdOutcome view case_of first_fault (plain_inputs i) third (IsLifted (view old).holds third) old new)
