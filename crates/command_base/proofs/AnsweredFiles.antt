-- What the answer to a command on two files says, and the outcome of a command at its front.
use Rattle.std.proofs.Common.{◌≡◌, ◌≢◌, ℕ, List, [], inr, refl, subst}
use Rattle.pc_common.specs.{Outside.{FilesView}, Case.{Case}, declared.{fault.InputFault.{InputFault}, status.Status.{Status}}}
use Rattle.pc_common.specs.declared.status.Status.TheVariants.{Usage, Refused, ReadFault, Memory}
use Rattle.pc_syntax.specs.Written.{WrittenModel}
use Rattle.pc_ground.specs.declared.front.Front.{Front}
use Rattle.command_base.specs.{declared.ending.Ending.{Ending}, Inputs.{Inputs, Contents, Says, IsFirstInputFault}, SecondFiles.{IsForm}, Refusals.{refusal}}
use Rattle.command_base.specs.{Endings.{ending_status, ending_text}, Outcomes.{HasFront, IsInputsEnding, IsFilesOutcome}}
use Rattle.command_base.{specs.FileAnswers.{AnswersFiles, IsDueOfFiles, refused, found}, proofs.OneCase.{one_said, no_fault_said}}

module _ {case_of : List ℕ → Case → Type 0} {first_fault : List ℕ → List ℕ → InputFault → Type 0} (form : IsForm case_of first_fault)
    {holds : Contents} {i : Inputs} {finds : WrittenModel → Case → Status → List ℕ → Type 0} where
  -- of the model and the case that the files say
  pub found_of : {status : Status} {text : List ℕ} → AnswersFiles case_of first_fault holds i finds status text
      → (m : WrittenModel) (c : Case) → Says case_of holds i m c → finds m c status text
  found_of (refused (refusal {fault = f} first held)) m c says = absurd (no_fault_said form holds i m c f says first)
  found_of {status} {text} (found {m = n} {c = d} other is) m c says =
      let one = one_said form holds i n m d c other says in
      let P : WrittenModel → Type 0 = λ k. finds k d status text in
      let Q : Case → Type 0 = λ k. finds m k status text in
      subst Q one.1 (subst P one.0 is)

  pub refused_of : {status : Status} {text : List ℕ} → AnswersFiles case_of first_fault holds i finds status text
      → (f : InputFault) → IsFirstInputFault first_fault holds i f → status ≡ Refused
  refused_of (refused (refusal first held)) f fault = refl
  refused_of (found {m = m} {c = c} says is) f fault = absurd (no_fault_said form holds i m c f says fault)

  pub due_of_files : {status : Status} {text : List ℕ} {due : WrittenModel → Case → Status → Type 0}
      → ((m : WrittenModel) (c : Case) → finds m c status text → due m c status)
      → AnswersFiles case_of first_fault holds i finds status text → IsDueOfFiles case_of first_fault holds i due status
  due_of_files by a = record { found = λ m c says. by m c (found_of a m c says); fault = refused_of a }

module _ {F : Type 0} {view : F → FilesView} {old new : F}
    {case_of : List ℕ → Case → Type 0} {first_fault : List ℕ → List ℕ → InputFault → Type 0} {i : Inputs}
    (finds : WrittenModel → Case → Status → List ℕ → Type 0) where
  -- the command ends at its two files
  pub ending_outcome : (e : Ending) → IsInputsEnding view case_of first_fault i old new e
      → IsFilesOutcome view case_of first_fault i finds old new (ending_status e) (ending_text e)
  ending_outcome e d = record {
    keeps = d.keeps;
    usage_only = d.usage_only;
    cause = d.cause;
    missing_only = d.missing_only;
    missing_due = d.missing_due;
    answers = λ t no_fault memory. refused (d.answers t no_fault memory).0;
  }

  module _ {front : Front} (f : HasFront view case_of i old new front) where
    -- the command finds this of the front
    pub found_outcome : (status : Status) (text : List ℕ) → status ≢ Usage → status ≢ ReadFault → finds f.m f.c status text
        → IsFilesOutcome view case_of first_fault i finds old new status text
    found_outcome status text no_usage no_fault is = record {
      keeps = f.keeps;
      usage_only = no_usage;
      cause = λ e. absurd (no_fault e);
      missing_only = λ c e. absurd (no_fault e);
      missing_due = λ c l. absurd (f.held c l);
      answers = λ t other memory. found (f.says t) is;
    }

    -- memory was refused after the front was there
    pub memory_outcome : IsFilesOutcome view case_of first_fault i finds old new Memory []
    memory_outcome = record {
      keeps = f.keeps;
      usage_only = no_usage;
      cause = λ e. absurd (no_read_fault e);
      missing_only = λ c e. absurd (no_read_fault e);
      missing_due = λ c l. inr refl;
      answers = λ t no_fault memory. absurd (memory refl);
    }
      where
        no_usage : Memory ≡ Usage → ⊥
        no_usage e = cc

        no_read_fault : Memory ≡ ReadFault → ⊥
        no_read_fault e = cc
