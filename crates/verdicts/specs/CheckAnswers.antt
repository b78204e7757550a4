-- The answer of `check` to two files, and the status that is due.
use Rattle.std.specs.Prelude.{ℕ, List, Result}
use Rattle.pc_common.specs.{Outside.{FilesView}, Case.{Case}, declared.{fault.InputFault.{InputFault}, status.Status.{Status}}}
use Rattle.pc_ground.specs.declared.version.Version.{Version}
use Rattle.command_base.specs.{declared.{inputs.Inputs.{Inputs as CodeInputs}, ending.Ending.{Ending}}, Inputs.{Inputs, Contents, plain_inputs}}
use Rattle.command_base.specs.{Endings.{HasOutcome}, Outcomes.{IsFilesOutcome}, VerdictStatus.{IsDueStatus}, FileAnswers.{AnswersFiles, IsDueOfFiles}}
use Rattle.verdicts.specs.{declared.verdict.FoundVerdict.{FoundVerdict}, Verdicts.{status_of, verdict_text}, Certified.{IsCertified}}

module _ (case_of : List ℕ → Case → Type 0) (first_fault : List ℕ → List ℕ → InputFault → Type 0) (holds : Contents)
    (i : Inputs) where
  -- the refusal by the first fault, or the verdict with its certificate, a refutation being of this version
  abbrev pub AnswersCheck : Version → Status → List ℕ → Type 0
  AnswersCheck version = AnswersFiles case_of first_fault holds i (IsCertified version)

  -- refused, or observable exactly where some choice of nodes with some strict order makes every axiom true
  abbrev pub IsCheckDue : Status → Type 0
  IsCheckDue = IsDueOfFiles case_of first_fault holds i IsDueStatus

-- what `check` returns: the verdict with its certificate, or the ending
abbrev pub ReturnsVerdict : {F : Type 0} → (F → FilesView) → (List ℕ → Case → Type 0)
    → (List ℕ → List ℕ → InputFault → Type 0) → Version → CodeInputs → F → F → Result FoundVerdict Ending → Type 0
ReturnsVerdict view case_of first_fault version i old new result =
    HasOutcome result (λ v. status_of v.found) verdict_text
    (IsFilesOutcome view case_of first_fault (plain_inputs i) (IsCertified version) old new)
