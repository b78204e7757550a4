-- The outcome of `verify`: what its answer says, and that it is due.
use Rattle.std.{proofs.Common.{◌≡◌, ℕ, List, Some, refl, subst}, specs.Prelude.{IsTrue}}
use Rattle.pc_common.specs.{Outside.{FilesView}, Case.{Case}, Reads.{Reads}, declared.{fault.InputFault.{InputFault}, status.Status.{Status}}}
use Rattle.pc_common.specs.declared.status.Status.TheVariants.{Usage, ReadFault}
use Rattle.pc_syntax.specs.Written.{WrittenModel}
use Rattle.pc_ground.specs.declared.front.Front.{Front}
use Rattle.cert_check.specs.declared.checked.Checked.{Checked, TheVariants.{Observable as is_seen, Unobservable as is_unseen, Refused as is_refused_at}}
use Rattle.cert_check.{specs.{Questions.{question_of}, Verified.{Verified}}, proofs.Alike.{verified_alike}}
use Rattle.command_base.specs.{Inputs.{Inputs, Contents, Says}, SecondFiles.{IsForm}, Questions.{question_by}, VerdictStatus.{IsTrueStatus}}
use Rattle.command_base.{specs.{Outcomes.{HasFront, IsThirdOutcome}, CheckedTexts.{checked_status, checked_text}}, proofs.OneCase.{one_held}}
use Rattle.command_base.proofs.{AskedAlike.{asks_alike}, AnsweredFiles.{found_of, due_of_files}, ThirdFile.{third_found}}
use Rattle.verify_command.{specs.VerifyAnswers.{AnswersVerify, IsVerifyDue, IsJudged, judged, IsDueCheck}, proofs.OneVerdict.{verified_true, one_found}}

no_read_fault : (found : Checked) → checked_status found ≡ ReadFault → ⊥
no_read_fault is_seen e = cc
no_read_fault is_unseen e = cc
no_read_fault (is_refused_at n) e = cc

no_usage : (found : Checked) → checked_status found ≡ Usage → ⊥
no_usage is_seen e = cc
no_usage is_unseen e = cc
no_usage (is_refused_at n) e = cc

module _ {F : Type 0} {view : F → FilesView} {old mid new : F}
    (failing_modelled : IsTrue (view old).only_missing_fail → IsTrue (view old).modelled)
    {case_of : List ℕ → Case → Type 0} {first_fault : List ℕ → List ℕ → InputFault → Type 0} {i : Inputs} (certificate : List ℕ) {front : Front}
    (f : HasFront view case_of i old mid front) (keeps : Reads view mid new) where
  -- the third file was checked
  pub found_outcome : (found : Checked)
      → (IsTrue (view mid).modelled → (bytes : List ℕ) × ((view mid).holds certificate ≡ Some bytes) × Verified (question_of front) bytes found)
      → IsThirdOutcome view case_of first_fault i certificate (IsJudged (view old).holds certificate) old new (checked_status found) (checked_text found)
  found_outcome found is =
      third_found failing_modelled certificate (IsJudged (view old).holds certificate) f keeps (checked_status found)
      (checked_text found) (no_usage found) (no_read_fault found)
      (λ t. let third = is t in (
        third.0,
        third.1,
        λ held. judged held (verified_alike (question_of front) (question_by f.m f.c) (asks_alike f.m f.c front f.front_of) third.0 found third.2),
      ))

judged_true : {holds : Contents} {certificate : List ℕ} {m : WrittenModel} {c : Case} {status : Status} {text : List ℕ}
    → IsJudged holds certificate m c status text → IsTrueStatus m c status
judged_true {m = m} {c = c} (judged {bytes = bytes} {found = found} held is) = verified_true m c bytes found is

judged_due : {holds : Contents} {certificate : List ℕ} {m : WrittenModel} {c : Case} {status : Status} {text : List ℕ}
    → IsJudged holds certificate m c status text → IsDueCheck holds certificate m c status
judged_due {holds} {certificate} {m} {c} (judged {bytes = bytes} {found = found} held is) other held2 =
    let P : List ℕ → Type 0 = λ b. Verified (question_by m c) b found in
    let here : Verified (question_by m c) other found = subst P (one_held holds certificate bytes other held held2) is in record {
      found = found;
      verified = here;
      only = λ thing v. one_found m c other thing found v here;
      status_is = refl;
    }

module _ {case_of : List ℕ → Case → Type 0} {first_fault : List ℕ → List ℕ → InputFault → Type 0} (form : IsForm case_of first_fault)
    {holds : Contents} {i : Inputs} {certificate : List ℕ} {status : Status} {text : List ℕ}
    (a : AnswersVerify case_of first_fault holds i certificate status text) where
  pub verify_true : (m : WrittenModel) (c : Case) → Says case_of holds i m c → IsTrueStatus m c status
  verify_true m c says = judged_true (found_of form a m c says)

  pub verify_due : IsVerifyDue case_of first_fault holds i certificate status
  verify_due = due_of_files form (λ m c is. judged_due is) a
