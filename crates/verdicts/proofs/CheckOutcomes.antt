-- The outcome of `check`: what its answer says, and that it is due.
use Rattle.std.proofs.Common.{◌≡◌, ℕ, List, subst}
use Rattle.pc_common.specs.{Outside.{FilesView}, Case.{Case}, declared.{fault.InputFault.{InputFault}, status.Status.{Status}}}
use Rattle.pc_syntax.specs.Written.{WrittenModel}
use Rattle.pc_ground.specs.declared.{front.Front.{Front}, version.Version.{Version}}
use Rattle.command_base.specs.{Inputs.{Inputs, Contents, Says}, SecondFiles.{IsForm}, VerdictStatus.{IsTrueStatus}, Outcomes.{HasFront, IsFilesOutcome}}
use Rattle.command_base.proofs.AnsweredFiles.{found_outcome, found_of, due_of_files}
use Rattle.verdicts.specs.{declared.verdict.FoundVerdict.{FoundVerdict}, Verdicts.{status_of, verdict_text, IsVerdict}, Certified.{IsCertified}}
use Rattle.verdicts.proofs.{VerdictTexts.{verdict_certified}, CertifiedTruth.{certified_true, certified_due, no_usage_of, no_read_fault_of}}
use Rattle.verdicts.specs.CheckAnswers.{AnswersCheck, IsCheckDue}

module _ {F : Type 0} {view : F → FilesView} {old new : F}
    {case_of : List ℕ → Case → Type 0} {first_fault : List ℕ → List ℕ → InputFault → Type 0} {i : Inputs} where
  -- the verdict on the front of the two files
  pub verdict_outcome : {front : Front} (f : HasFront view case_of i old new front) (v : FoundVerdict) (version : Version)
      → v.version ≡ version → IsVerdict f.m f.c v
      → IsFilesOutcome view case_of first_fault i (IsCertified version) old new (status_of v.found) (verdict_text v)
  verdict_outcome f v version same is =
      let P : Version → Type 0 = λ x. IsFilesOutcome view case_of first_fault i (IsCertified x) old new (status_of v.found) (verdict_text v) in
      subst P same (found_outcome (IsCertified v.version) f (status_of v.found) (verdict_text v) (no_usage_of v.found) (no_read_fault_of v.found)
      (verdict_certified f.m f.c v f.kept is))

module _ {case_of : List ℕ → Case → Type 0} {first_fault : List ℕ → List ℕ → InputFault → Type 0} (form : IsForm case_of first_fault)
    {holds : Contents} {i : Inputs} {version : Version} {status : Status} {text : List ℕ}
    (a : AnswersCheck case_of first_fault holds i version status text) where
  pub check_true : (m : WrittenModel) (c : Case) → Says case_of holds i m c → IsTrueStatus m c status
  check_true m c says = certified_true (found_of form a m c says)

  pub check_due : IsCheckDue case_of first_fault holds i status
  check_due = due_of_files form (λ m c is. certified_due is) a
