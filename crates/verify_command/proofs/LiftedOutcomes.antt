-- The outcome of `verify-lifted`: what its answer says, and that it is due.
use Rattle.std.{proofs.Common.{◌≡◌, ℕ, List, Some, None, refl, ◌∙◌, ap, subst}, specs.Prelude.{IsTrue}}
use Rattle.pc_common.specs.{Outside.{FilesView}, Case.{Case}, Reads.{Reads}, declared.{fault.InputFault.{InputFault}, status.Status.{Status}}}
use Rattle.pc_common.specs.declared.status.Status.TheVariants.{Usage, ReadFault}
use Rattle.pc_syntax.specs.{Written.{WrittenModel}, ModelFault.{first_model_fault}, Closed.{PlainClosed}}
use Rattle.pc_ground.specs.declared.front.Front.{Front}
use Rattle.pc_front.specs.Front.{IsFrontOf}
use Rattle.lifted_check.specs.declared.lifted.Lifted.{Lifted, TheVariants.{Unobservable as is_unseen, Refused as is_refused_at}}
use Rattle.lifted_check.specs.{LiftedTexts.{Question, asked}, Fed.{IsFound}}
use Rattle.command_base.specs.{Inputs.{Inputs, Contents, Says}, SecondFiles.{IsForm}, VerdictStatus.{IsTrueStatus}, Outcomes.{HasFront, IsThirdOutcome}}
use Rattle.command_base.{specs.LiftedQuestions.{lifted_question}, proofs.{OneCase.{one_held}, AnsweredFiles.{found_of, due_of_files}, ThirdFile.{third_found}}}
use Rattle.verify_command.specs.{LiftedTexts.{lifted_status, lifted_text}, LiftedAnswers.{AnswersLifted, IsLiftedDue, IsJudged, judged, IsDueCheck}}
use Rattle.verify_command.proofs.OneAnswer.{found_true, one_found}

no_read_fault : (found : Lifted) → lifted_status found ≡ ReadFault → ⊥
no_read_fault is_unseen e = cc
no_read_fault (is_refused_at n) e = cc

no_usage : (found : Lifted) → lifted_status found ≡ Usage → ⊥
no_usage is_unseen e = cc
no_usage (is_refused_at n) e = cc

-- a front asks what its model and its case ask
same_question : (m : WrittenModel) (c : Case) (front : Front) → IsFrontOf m c front → asked front.case front.axioms ≡ lifted_question m c
same_question m c front is =
    ap (λ (d : Case). asked d front.axioms) is.parts.case
    ∙ ap (λ (ps : List PlainClosed). record { case = c; axioms = ps }) is.parts.model.axioms

found_alike : (m : WrittenModel) (c : Case) (front : Front) → IsFrontOf m c front → (text : List ℕ) (found : Lifted)
    → IsFound (asked front.case front.axioms) text found
    → IsFound (lifted_question m c) text found
found_alike m c front is text found h = (let P : Question → Type 0 = λ q. IsFound q text found in subst P (same_question m c front is) h)

module _ {F : Type 0} {view : F → FilesView} {old mid new : F}
    (failing_modelled : IsTrue (view old).only_missing_fail → IsTrue (view old).modelled)
    {case_of : List ℕ → Case → Type 0} {first_fault : List ℕ → List ℕ → InputFault → Type 0} {i : Inputs} (certificate : List ℕ) {front : Front}
    (f : HasFront view case_of i old mid front) (keeps : Reads view mid new) where
  -- the third file was checked
  pub found_outcome : (found : Lifted)
      → (IsTrue (view mid).modelled → (bytes : List ℕ) × ((view mid).holds certificate ≡ Some bytes) × IsFound (asked front.case front.axioms) bytes found)
      → IsThirdOutcome view case_of first_fault i certificate (IsJudged (view old).holds certificate) old new (lifted_status found) (lifted_text found)
  found_outcome found is =
      third_found failing_modelled certificate (IsJudged (view old).holds certificate) f keeps (lifted_status found)
      (lifted_text found) (no_usage found) (no_read_fault found)
      (λ t. let third = is t in (
        third.0,
        third.1,
        λ held. judged held (found_alike f.m f.c front f.front_of third.0 found third.2),
      ))

judged_true : {holds : Contents} {certificate : List ℕ} {m : WrittenModel} {c : Case} {status : Status} {text : List ℕ}
    → first_model_fault m ≡ None → IsJudged holds certificate m c status text → IsTrueStatus m c status
judged_true {m = m} {c = c} faultless (judged {bytes = bytes} {found = found} held is) = found_true m c faultless bytes found is

judged_due : {holds : Contents} {certificate : List ℕ} {m : WrittenModel} {c : Case} {status : Status} {text : List ℕ}
    → IsJudged holds certificate m c status text → IsDueCheck holds certificate m c status
judged_due {holds} {certificate} {m} {c} (judged {bytes = bytes} {found = found} held is) other held2 =
    let P : List ℕ → Type 0 = λ b. IsFound (lifted_question m c) b found in
    let here : IsFound (lifted_question m c) other found = subst P (one_held holds certificate bytes other held held2) is in record {
      found = found;
      is = here;
      only = λ thing v. one_found (lifted_question m c) other thing found v here;
      status_is = refl;
    }

module _ {case_of : List ℕ → Case → Type 0} {first_fault : List ℕ → List ℕ → InputFault → Type 0} (form : IsForm case_of first_fault)
    {holds : Contents} {i : Inputs} {certificate : List ℕ} {status : Status} {text : List ℕ}
    (a : AnswersLifted case_of first_fault holds i certificate status text) where
  pub lifted_true : (m : WrittenModel) (c : Case) → Says case_of holds i m c → IsTrueStatus m c status
  lifted_true m c says = judged_true says.says_model.no_fault (found_of form a m c says)

  pub lifted_due : IsLiftedDue case_of first_fault holds i certificate status
  lifted_due = due_of_files form (λ m c is. judged_due is) a
