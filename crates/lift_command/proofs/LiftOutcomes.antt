-- The outcome of `lift`: what its answer says, and that it is due.
use Rattle.std.{proofs.Common.{◌≡◌, ℕ, List, Some, ◌∙◌, ap, subst}, specs.Prelude.{IsTrue}}
use Rattle.pc_common.specs.{Outside.{FilesView}, Case.{Case}, Reads.{Reads}, declared.{fault.InputFault.{InputFault}, status.Status.{Status}}}
use Rattle.pc_common.specs.declared.status.Status.TheVariants.{Usage, ReadFault}
use Rattle.pc_syntax.specs.{Closed.{PlainClosed}, Written.{WrittenModel}}
use Rattle.pc_ground.specs.declared.front.Front.{Front}
use Rattle.pc_front.specs.Front.{IsFrontOf}
use Rattle.cert_check.{specs.{Certificates.{Question}, Questions.{question_of}}, proofs.Alike.{one_question}}
use Rattle.lifted_check.specs.LiftedTexts.{Question as LiftedQuestion, asked}
use Rattle.command_base.specs.{Inputs.{Inputs, Contents, Says}, SecondFiles.{IsForm}, Questions.{question_by}, VerdictStatus.{IsTrueStatus}}
use Rattle.command_base.{specs.{Outcomes.{HasFront, IsThirdOutcome}, LiftedQuestions.{lifted_question}}, proofs.{OneCase.{one_held}, AskedAlike.{asks_alike}}}
use Rattle.command_base.proofs.{AnsweredFiles.{found_of, due_of_files}, ThirdFile.{third_found}}
use Rattle.lift_command.specs.{declared.lifting.FoundLift.{FoundLift, TheVariants.{Observable, Text, Refused}}, Lifts.{IsLiftOf}}
use Rattle.lift_command.specs.{LiftTexts.{lift_status, lift_text}, LiftAnswers.{AnswersLift, IsLiftDue, IsLifted, lifted, IsDueLift}}
use Rattle.lift_command.proofs.OneStatus.{status_of, lift_true_status}

no_read_fault : (found : FoundLift) → lift_status found ≡ ReadFault → ⊥
no_read_fault Observable e = cc
no_read_fault (Text t) e = cc
no_read_fault (Refused n) e = cc

no_usage : (found : FoundLift) → lift_status found ≡ Usage → ⊥
no_usage Observable e = cc
no_usage (Text t) e = cc
no_usage (Refused n) e = cc

-- a front asks what its model and its case ask
same_question : (m : WrittenModel) (c : Case) (front : Front) → IsFrontOf m c front → asked front.case front.axioms ≡ lifted_question m c
same_question m c front is =
    ap (λ (d : Case). asked d front.axioms) is.parts.case
    ∙ ap (λ (ps : List PlainClosed). record { case = c; axioms = ps }) is.parts.model.axioms

lift_alike : (m : WrittenModel) (c : Case) (front : Front) → IsFrontOf m c front → (text : List ℕ) (found : FoundLift)
    → IsLiftOf (question_of front) (asked front.case front.axioms) text found → IsLiftOf (question_by m c) (lifted_question m c) text found
lift_alike m c front is text found h =
    let P : Question → Type 0 = λ q. IsLiftOf q (asked front.case front.axioms) text found in
    let Q : LiftedQuestion → Type 0 = λ l. IsLiftOf (question_by m c) l text found in
    subst Q (same_question m c front is) (subst P (one_question (question_of front) (question_by m c) (asks_alike m c front is)) h)

module _ {F : Type 0} {view : F → FilesView} {old mid new : F}
    (failing_modelled : IsTrue (view old).only_missing_fail → IsTrue (view old).modelled)
    {case_of : List ℕ → Case → Type 0} {first_fault : List ℕ → List ℕ → InputFault → Type 0} {i : Inputs} (certificate : List ℕ) {front : Front}
    (f : HasFront view case_of i old mid front) (keeps : Reads view mid new) where
  -- the third file was lifted
  pub found_outcome : (found : FoundLift)
      → (IsTrue (view mid).modelled → (bytes : List ℕ) × ((view mid).holds certificate ≡ Some bytes)
      × IsLiftOf (question_of front) (asked front.case front.axioms) bytes found)
      → IsThirdOutcome view case_of first_fault i certificate (IsLifted (view old).holds certificate) old new (lift_status found) (lift_text found)
  found_outcome found is =
      third_found failing_modelled certificate (IsLifted (view old).holds certificate) f keeps (lift_status found)
      (lift_text found) (no_usage found) (no_read_fault found)
      (λ t. let third = is t in (
        third.0,
        third.1,
        λ held. lifted found held (lift_alike f.m f.c front f.front_of third.0 found third.2),
      ))

judged_true : {holds : Contents} {certificate : List ℕ} {m : WrittenModel} {c : Case} {status : Status} {text : List ℕ}
    → IsLifted holds certificate m c status text → IsTrueStatus m c status
judged_true {m = m} {c = c} (lifted {bytes = bytes} found held is) = lift_true_status m c (lifted_question m c) bytes found is

judged_due : {holds : Contents} {certificate : List ℕ} {m : WrittenModel} {c : Case} {status : Status} {text : List ℕ}
    → IsLifted holds certificate m c status text → IsDueLift holds certificate m c status
judged_due {holds} {certificate} {m} {c} (lifted {bytes = bytes} found held is) other held2 =
    let P : List ℕ → Type 0 = λ b. IsLiftOf (question_by m c) (lifted_question m c) b found in
    status_of (question_by m c) (lifted_question m c) other found (subst P (one_held holds certificate bytes other held held2) is)

module _ {case_of : List ℕ → Case → Type 0} {first_fault : List ℕ → List ℕ → InputFault → Type 0} (form : IsForm case_of first_fault)
    {holds : Contents} {i : Inputs} {certificate : List ℕ} {status : Status} {text : List ℕ}
    (a : AnswersLift case_of first_fault holds i certificate status text) where
  pub lift_true : (m : WrittenModel) (c : Case) → Says case_of holds i m c → IsTrueStatus m c status
  lift_true m c says = judged_true (found_of form a m c says)

  pub lift_due : IsLiftDue case_of first_fault holds i certificate status
  lift_due = due_of_files form (λ m c is. judged_due is) a
