-- The outcome of a command that reads a third file where the two have no fault.
use Rattle.std.{proofs.Common.{◌≡◌, ◌≢◌, ◌⊎◌, ℕ, Bool, List, inl, inr, Some, None, refl, sym, ◌∙◌, subst}, specs.Prelude.{IsTrue}}
use Rattle.pc_common.specs.{Outside.{FilesView}, Case.{Case}, Reads.{Reads}, declared.{fault.InputFault.{InputFault}, status.Status.{Status}}}
use Rattle.pc_common.specs.declared.status.Status.TheVariants.{Observable, Unobservable, Done, Usage, Refused, ReadFault, WriteFault, CertRefused, Memory}
use Rattle.pc_syntax.specs.Written.{WrittenModel}
use Rattle.pc_ground.specs.declared.front.Front.{Front}
use Rattle.command_base.specs.{declared.ending.Ending.{Ending}, FileAnswers.{refused, found}, Inputs.{Inputs, Contents, LacksInput}}
use Rattle.command_base.specs.{Endings.{ending_status, ending_text}, Outcomes.{HasFront, IsInputsEnding, IsThirdOutcome, LacksThirdFile}}
use Rattle.command_base.proofs.InputsRead.{reads_then}

some_none : {x : List ℕ} → Some x ≡ None → ⊥
some_none e = cc

-- a status is a fault of the outside, want of memory, or neither
outside_or : (s : Status) → ((s ≡ ReadFault) ⊎ (s ≡ Memory)) ⊎ ((s ≢ ReadFault) × (s ≢ Memory))
outside_or Observable = inr (λ e. cc, λ e. cc)
outside_or Unobservable = inr (λ e. cc, λ e. cc)
outside_or Done = inr (λ e. cc, λ e. cc)
outside_or Usage = inr (λ e. cc, λ e. cc)
outside_or Refused = inr (λ e. cc, λ e. cc)
outside_or ReadFault = inl (inl refl)
outside_or WriteFault = inr (λ e. cc, λ e. cc)
outside_or CertRefused = inr (λ e. cc, λ e. cc)
outside_or Memory = inl (inr refl)

module _ {F : Type 0} {view : F → FilesView} {old mid : F}
    {case_of : List ℕ → Case → Type 0} {i : Inputs} {front : Front} (f : HasFront view case_of i old mid front) where
  told_mid : IsTrue (view old).modelled → IsTrue (view mid).modelled
  told_mid t = (let P : Bool → Type 0 = λ b. IsTrue b in subst P (sym f.keeps.same_modelled) t)

  held_old : (third bytes : List ℕ) → (view mid).holds third ≡ Some bytes → (view old).holds third ≡ Some bytes
  held_old third bytes h = (let P : Contents → Type 0 = λ k. k third ≡ Some bytes in subst P f.keeps.same_held h)

module _ {F : Type 0} {view : F → FilesView} {old mid : F}
    (failing_modelled : IsTrue (view old).only_missing_fail → IsTrue (view old).modelled)
    {case_of : List ℕ → Case → Type 0} {first_fault : List ℕ → List ℕ → InputFault → Type 0} {i : Inputs} (third : List ℕ)
    (finds : WrittenModel → Case → Status → List ℕ → Type 0) where
  -- the command ends at its two files
  pub third_ending : (e : Ending) → IsInputsEnding view case_of first_fault i old mid e
      → IsThirdOutcome view case_of first_fault i third finds old mid (ending_status e) (ending_text e)
  third_ending e d = record {
    keeps = d.keeps;
    usage_only = d.usage_only;
    cause = d.cause;
    missing_only = λ c s. inl (d.missing_only c s);
    missing_due = due;
    answers = λ t no_fault memory. refused (d.answers t no_fault memory).0;
  }
    where
      lacking : IsTrue (view old).only_missing_fail → LacksThirdFile case_of (view old).holds i third
          → ((ending_status e ≡ ReadFault) ⊎ (ending_status e ≡ Memory)) ⊎ ((ending_status e ≢ ReadFault) × (ending_status e ≢ Memory))
          → (ending_status e ≡ ReadFault) ⊎ (ending_status e ≡ Memory)
      lacking c l (inl s) = s
      lacking c l (inr others) = absurd ((d.answers (failing_modelled c) others.0 others.1).1 l.m l.c l.says)

      due : IsTrue (view old).only_missing_fail → LacksInput (view old).holds i ⊎ LacksThirdFile case_of (view old).holds i third
          → (ending_status e ≡ ReadFault) ⊎ (ending_status e ≡ Memory)
      due c (inl l) = d.missing_due c l
      due c (inr l) = lacking c l (outside_or (ending_status e))

  module _ {new : F} {front : Front} (f : HasFront view case_of i old mid front) (keeps : Reads view mid new) where
    -- the command finds this of the front and of what the third file holds
    pub third_found : (status : Status) (text : List ℕ) → status ≢ Usage → status ≢ ReadFault
        → (IsTrue (view mid).modelled → (bytes : List ℕ) × ((view mid).holds third ≡ Some bytes)
        × ((view old).holds third ≡ Some bytes → finds f.m f.c status text))
        → IsThirdOutcome view case_of first_fault i third finds old new status text
    third_found status text no_usage no_fault is = record {
      keeps = reads_then f.keeps keeps;
      usage_only = no_usage;
      cause = λ e. absurd (no_fault e);
      missing_only = λ c e. absurd (no_fault e);
      missing_due = due;
      answers = λ t other memory. let held = is (told_mid f t) in found (f.says t) (held.2 (held_old f third held.0 held.1));
    }
      where
        due : IsTrue (view old).only_missing_fail → LacksInput (view old).holds i ⊎ LacksThirdFile case_of (view old).holds i third
            → (status ≡ ReadFault) ⊎ (status ≡ Memory)
        due c (inl l) = absurd (f.held c l)
        due c (inr l) = (let held = is (told_mid f (failing_modelled c)) in absurd (some_none (sym (held_old f third held.0 held.1) ∙ l.missing)))
