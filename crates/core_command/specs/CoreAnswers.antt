-- The answer of `core` to two files, and the status that is due.
use Rattle.std.specs.Prelude.{◌≡◌, ℕ, List, [], ◌∷◌, length, Contains, Result}
use Rattle.pc_common.specs.{Outside.{FilesView}, Case.{Case}, declared.{fault.InputFault.{InputFault}, status.Status.{Status}}}
use Rattle.pc_common.specs.declared.status.Status.TheVariants.{Observable as is_observable, Unobservable as is_unobservable, Done}
use Rattle.pc_syntax.specs.{Written.{WrittenModel}, Observable.{axioms_of, Observable}}
use Rattle.pc_ground.specs.declared.version.Version.TheVariants.{One}
use Rattle.axiom_core.specs.{Chosen.{Choice, among, less, AreRising}, ModelWith.{model_with}}
use Rattle.command_base.specs.{declared.{inputs.Inputs.{Inputs as CodeInputs}, ending.Ending.{Ending}}, Inputs.{Inputs, Contents, plain_inputs}}
use Rattle.command_base.specs.{Endings.{HasOutcome}, Outcomes.{IsFilesOutcome}, FileAnswers.{AnswersFiles, IsDueOfFiles}}
use Rattle.verdicts.specs.Certified.{IsCertified}
use Rattle.core_command.specs.{declared.command.FoundCore.{FoundCore}, CoreTexts.{no_core_text, core_text}, Found.{found_text}}

-- the axioms of these numbers, counted from 0, make the outcome unobservable, and without any one of them the others don't
pub record IsMinimalSet (m : WrittenModel) (c : Case) (numbers : List ℕ) : Type 0 where
  pub rising : AreRising 0 (length (axioms_of m)) numbers
  pub unobservable : Observable (model_with (among numbers) m) c → ⊥
  pub needed : (i : ℕ) → Contains numbers i → Observable (model_with (less i (among numbers)) m) c

-- for each of these numbers, in order, a graph's certificate on the chosen axioms without the one of that number
abbrev pub AreCertifiedWithout : WrittenModel → Case → Choice → List ℕ → List (List ℕ) → Type 0
AreCertifiedWithout m c keep [] [] = Unit {0}
AreCertifiedWithout m c keep (i ∷ is) (g ∷ gs) = IsCertified One (model_with (less i keep) m) c is_observable g × AreCertifiedWithout m c keep is gs
AreCertifiedWithout m c keep [] (g ∷ gs) = ⊥
AreCertifiedWithout m c keep (i ∷ is) [] = ⊥

-- the outcome is unobservable, these axioms are a minimal set that makes it so, and these are certificates of its claims
pub record IsCoreSet (m : WrittenModel) (c : Case) (numbers : List ℕ) (refutation : List ℕ) (texts : List (List ℕ)) : Type 0 where
  pub unobservable : Observable m c → ⊥
  pub minimal : IsMinimalSet m c numbers
  pub tree : IsCertified One (model_with (among numbers) m) c is_unobservable refutation
  pub graphs : AreCertifiedWithout m c (among numbers) numbers texts

-- no core where the outcome is observable, with a graph's certificate, or else a minimal set with its certificates
pub data IsCoreText (m : WrittenModel) (c : Case) : Status → List ℕ → Type 0 where
  no_core : {graph : List ℕ} → Observable m c → IsCertified One m c is_observable graph → IsCoreText m c Done (no_core_text graph)
  a_core : {numbers : List ℕ} {tree : List ℕ} {graphs : List (List ℕ)} → IsCoreSet m c numbers tree graphs
      → IsCoreText m c Done (core_text numbers tree graphs)

module _ (case_of : List ℕ → Case → Type 0) (first_fault : List ℕ → List ℕ → InputFault → Type 0) (holds : Contents) (i : Inputs) where
  -- the refusal by the first fault, or the core with its certificates
  abbrev pub AnswersCore : Status → List ℕ → Type 0
  AnswersCore = AnswersFiles case_of first_fault holds i IsCoreText

  -- refused, or done
  abbrev pub IsCoreDue : Status → Type 0
  IsCoreDue = IsDueOfFiles case_of first_fault holds i (λ m c status. status ≡ Done)

-- what `core` returns: the core with its certificates, or the ending
abbrev pub ReturnsCore : {F : Type 0} → (F → FilesView) → (List ℕ → Case → Type 0)
    → (List ℕ → List ℕ → InputFault → Type 0) → CodeInputs → F → F → Result FoundCore Ending → Type 0
ReturnsCore view case_of first_fault i old new result =
    HasOutcome result (λ found. Done) found_text
    (IsFilesOutcome view case_of first_fault (plain_inputs i) IsCoreText old new)
