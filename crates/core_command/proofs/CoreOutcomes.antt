-- The outcome of `core`: what its answer says, and that it is due.
use Rattle.std.proofs.Common.{◌≡◌, ℕ, List, refl}
use Rattle.pc_common.specs.{Outside.{FilesView}, Case.{Case}, declared.{fault.InputFault.{InputFault}, status.Status.{Status}}}
use Rattle.pc_common.specs.declared.status.Status.TheVariants.{Done, Usage, ReadFault}
use Rattle.pc_syntax.specs.Written.{WrittenModel}
use Rattle.pc_ground.specs.declared.front.Front.{Front}
use Rattle.axiom_core.specs.{Cores.{IsCoreOf}, declared.answer.Core.{Core}}
use Rattle.command_base.specs.{Inputs.{Inputs, Contents}, SecondFiles.{IsForm}, Outcomes.{HasFront, IsFilesOutcome}}
use Rattle.command_base.proofs.AnsweredFiles.{found_outcome, due_of_files}
use Rattle.core_command.{specs.{CoreAnswers.{IsCoreText, no_core, a_core, AnswersCore, IsCoreDue}, Found.{text_of}}, proofs.CertifiedCores.{core_answer}}

module _ {F : Type 0} {view : F → FilesView} {old new : F}
    {case_of : List ℕ → Case → Type 0} {first_fault : List ℕ → List ℕ → InputFault → Type 0} {i : Inputs} where
  -- the core of the front of the two files
  pub core_outcome : {front : Front} (f : HasFront view case_of i old new front) (core : Core) → IsCoreOf front core
      → IsFilesOutcome view case_of first_fault i IsCoreText old new Done (text_of front core)
  core_outcome {front} f core is =
      found_outcome IsCoreText f Done (text_of front core) no_usage no_read_fault (core_answer f.m f.c f.kept front f.front_of core is)
    where
      no_usage : Done ≡ Usage → ⊥
      no_usage e = cc

      no_read_fault : Done ≡ ReadFault → ⊥
      no_read_fault e = cc

core_done : {m : WrittenModel} {c : Case} {status : Status} {text : List ℕ} → IsCoreText m c status text → status ≡ Done
core_done (no_core observable graph) = refl
core_done (a_core set) = refl

module _ {case_of : List ℕ → Case → Type 0} {first_fault : List ℕ → List ℕ → InputFault → Type 0} (form : IsForm case_of first_fault)
    {holds : Contents} {i : Inputs} {status : Status} {text : List ℕ} (a : AnswersCore case_of first_fault holds i status text) where
  pub core_due : IsCoreDue case_of first_fault holds i status
  core_due = due_of_files form (λ m c is. core_done is) a
