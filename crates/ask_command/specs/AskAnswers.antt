-- The answer of `ask` to three files, and the status that is due.
use Rattle.std.specs.Prelude.{◌≡◌, ℕ, Bool, List, [], Result, IsTrue}
use Rattle.pc_common.specs.{Outside.{FilesView}, Case.{Case}, World.{Node, World}, declared.{fault.InputFault.{InputFault}, status.Status.{Status}}}
use Rattle.pc_common.specs.declared.status.Status.TheVariants.{Done, Refused}
use Rattle.pc_syntax.specs.{Written.{Written, WrittenModel, stage_numbers}, Observable.{macros_of, setting, satisfies, IsWorldOf}, Truth.{is_true}}
use Rattle.pc_ground.specs.declared.version.Version.TheVariants.{One}
use Rattle.ask_command.specs.{Queries.{with_axiom, with_denial}, declared.{outcome.AskWord.{AskWord}, command.FoundAsk.{FoundAsk}}, Words.{IsWord}}
use Rattle.ask_command.specs.{AskTexts.{ask_text}, FoundAsks.{found_text}, AskFiles.{SaysAll, IsFirstAskFault, IsAskRefusal, LacksAskedFile}}
use Rattle.verdicts.specs.Certified.{IsCertified}
use Rattle.command_base.specs.{declared.{inputs.Inputs.{Inputs as CodeInputs}, ending.Ending.{Ending}}, Inputs.{Inputs, Contents, plain_inputs}}
use Rattle.command_base.specs.{Endings.{HasOutcome}, Outcomes.{IsOutcome}}

-- a world of the model and the case that satisfies the model
abbrev pub IsAllowed : WrittenModel → Case → World Node → Type 0
IsAllowed m c w = IsWorldOf (stage_numbers m.stages) c.ops w × IsTrue (satisfies m c w)

-- the truth of the formula in a world, with all macros of the model
abbrev pub holds_in : WrittenModel → Case → Written → World Node → Bool
holds_in m c f w = is_true (setting m c w) (macros_of m) [] f

-- over the worlds of the model and the case that satisfy the model: `vacuous` where there is none, else `always` where
-- the formula is true in all, `never` where in none, else `sometimes`
abbrev pub IsAskWord : WrittenModel → Case → Written → AskWord → Type 0
IsAskWord m c f = IsWord (IsAllowed m c) (holds_in m c f)

-- the formula's word, with a certificate where the formula is the model's last axiom, and one where its denial is
pub data IsAskText (m : WrittenModel) (c : Case) (f : Written) : Status → List ℕ → Type 0 where
  asked : (word : AskWord) {s t : Status} {added against : List ℕ} → IsAskWord m c f word
      → IsCertified One (with_axiom m f) c s added → IsCertified One (with_denial m f) c t against
      → IsAskText m c f Done (ask_text word added against)

-- the refusal by the first fault, or the word with its certificates
pub data AnswersAsk (holds : Contents) (i : Inputs) (query : List ℕ) : Status → List ℕ → Type 0 where
  refused : {status : Status} {text : List ℕ} → IsAskRefusal holds i query status text → AnswersAsk holds i query status text
  found : {m : WrittenModel} {c : Case} {f : Written} {status : Status} {text : List ℕ} → SaysAll holds i query m c f
      → IsAskText m c f status text → AnswersAsk holds i query status text

-- refused wherever the files have a fault, and done wherever they say what is asked
pub record IsAskDue (holds : Contents) (i : Inputs) (query : List ℕ) (status : Status) : Type 0 where
  pub answered : (m : WrittenModel) (c : Case) (f : Written) → SaysAll holds i query m c f → status ≡ Done
  pub fault : (x : InputFault) → IsFirstAskFault holds i query x → status ≡ Refused

-- the outcome of `ask`
abbrev pub IsAskOutcome : {F : Type 0} → (F → FilesView) → Inputs → List ℕ → F → F → Status → List ℕ → Type 0
IsAskOutcome view i query old new status text =
    IsOutcome view ⊥ (IsTrue (view old).modelled) (LacksAskedFile (view old).holds i query)
    (AnswersAsk (view old).holds i query) old new status text

-- what `ask` returns: the word with its certificates, or the ending
abbrev pub ReturnsAsk : {F : Type 0} → (F → FilesView) → CodeInputs → List ℕ → F → F → Result FoundAsk Ending → Type 0
ReturnsAsk view i query old new result =
    HasOutcome result (λ found. Done) found_text (IsAskOutcome view (plain_inputs i) query old new)
