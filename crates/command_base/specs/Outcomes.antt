-- What a command keeps of the files, and when it returns which status and text.
use Rattle.std.specs.{Prelude.{◌≡◌, ◌≢◌, ◌≤◌, ◌⊎◌, ℕ, List, None, Result, MatchResult, length, IsTrue}, Global.{Vec}}
use Rattle.pc_common.specs.{Outside.{FilesView}, Case.{Case}, Faults.{Rose}, Reads.{Reads}, declared.{fault.InputFault.{InputFault}, status.Status.{Status}}}
use Rattle.pc_common.specs.declared.status.Status.TheVariants.{Usage, ReadFault, Memory}
use Rattle.pc_case.specs.MicroOps.{AreMicroOps}
use Rattle.pc_syntax.specs.Written.{WrittenModel}
use Rattle.pc_ground.specs.declared.{front.Front.{Front}, parts.Parts.{Parts}}
use Rattle.pc_front.specs.{declared.limits.TheConstants.{MAX_FILE}, Front.{IsFrontOf}}
use Rattle.command_base.specs.{declared.ending.Ending.{Ending}, Fronts.{front_of_parts}, Inputs.{Inputs, Contents, IsRead, Says, LacksInput}}
use Rattle.command_base.specs.{SecondFiles.{AnyCase, NoFault}, Refusals.{IsInputRefusal}, Endings.{ending_status, ending_text}, FileAnswers.{AnswersFiles}}

-- the bytes of the two files, each of at most the limit; modelled files hold them
pub record HasBytes {F : Type 0} (view : F → FilesView) (i : Inputs) (old new : F) (model second : List ℕ) : Type 0 where
  pub keeps : Reads view old new
  pub model_short : length model ≤ MAX_FILE
  pub second_short : length second ≤ MAX_FILE
  pub read : IsTrue (view old).modelled → IsRead (view old).holds i.model model × IsRead (view old).holds i.test second

-- the front of a model and a case, which modelled files say; files that fail only at missing names hold both names
pub record HasFront {F : Type 0} (view : F → FilesView)
    (case_of : List ℕ → Case → Type 0) (i : Inputs) (old new : F) (front : Front) : Type 0 where
  pub keeps : Reads view old new
  pub m : WrittenModel
  pub c : Case
  pub front_of : IsFrontOf m c front
  pub kept : AreMicroOps c.ops
  pub says : IsTrue (view old).modelled → Says case_of (view old).holds i m c
  pub held : IsTrue (view old).only_missing_fail → LacksInput (view old).holds i → ⊥

-- a status with its text: Usage comes only where the words are no command, ReadFault only where a call failed, and over
-- files of which only missing names fail exactly where the order of work lacks a name; where the files are known, each
-- status but ReadFault and Memory says what it has to
pub record IsOutcome {F : Type 0} (view : F → FilesView)
    (usage known lacks : Type 0) (says : Status → List ℕ → Type 0) (old new : F) (status : Status)
    (text : List ℕ) : Type 0 where
  pub keeps : Reads view old new
  pub usage_only : status ≡ Usage → usage
  pub cause : status ≡ ReadFault → Rose (view old).faults (view new).faults
  pub missing_only : IsTrue (view old).only_missing_fail → status ≡ ReadFault → lacks
  pub missing_due : IsTrue (view old).only_missing_fail → lacks → (status ≡ ReadFault) ⊎ (status ≡ Memory)
  pub answers : known → status ≢ ReadFault → status ≢ Memory → says status text

-- two files have no fault, and the third is not held
pub record LacksThirdFile (case_of : List ℕ → Case → Type 0) (holds : Contents) (i : Inputs) (third : List ℕ) : Type 0 where
  pub m : WrittenModel
  pub c : Case
  pub says : Says case_of holds i m c
  pub missing : holds third ≡ None

module _ {F : Type 0} (view : F → FilesView)
    (case_of : List ℕ → Case → Type 0) (first_fault : List ℕ → List ℕ → InputFault → Type 0) (i : Inputs) where
  -- the ending of a command at its two files: over modelled files a refusal, beside which they say nothing, if it is no
  -- fault of the outside
  abbrev pub IsInputsEnding : F → F → Ending → Type 0
  IsInputsEnding old new e =
      IsOutcome view ⊥ (IsTrue (view old).modelled) (LacksInput (view old).holds i)
      (λ status text. IsInputRefusal first_fault (view old).holds i status text
      × ((m : WrittenModel) (c : Case) → Says case_of (view old).holds i m c → ⊥))
      old new (ending_status e) (ending_text e)

  -- the front of the two files, or the ending
  abbrev pub ReadsFront : F → F → Result Front Ending → Type 0
  ReadsFront old new result = MatchResult result (HasFront view case_of i old new) (IsInputsEnding old new)

  -- the same without a ground tree
  abbrev pub ReadsParts : F → F → Result Parts Ending → Type 0
  ReadsParts old new result =
      MatchResult result (λ parts. HasFront view case_of i old new (front_of_parts parts)) (IsInputsEnding old new)

  -- the outcome of a command that reads two files, and finds this of what they say
  abbrev pub IsFilesOutcome : (WrittenModel → Case → Status → List ℕ → Type 0) → F → F → Status → List ℕ → Type 0
  IsFilesOutcome finds old new status text =
      IsOutcome view ⊥ (IsTrue (view old).modelled) (LacksInput (view old).holds i)
      (AnswersFiles case_of first_fault (view old).holds i finds) old new status text

  -- the outcome of a command that reads a third file where the two have no fault
  abbrev pub IsThirdOutcome : List ℕ → (WrittenModel → Case → Status → List ℕ → Type 0) → F → F → Status → List ℕ
      → Type 0
  IsThirdOutcome third finds old new status text =
      IsOutcome view ⊥ (IsTrue (view old).modelled)
      (LacksInput (view old).holds i ⊎ LacksThirdFile case_of (view old).holds i third)
      (AnswersFiles case_of first_fault (view old).holds i finds) old new status text

-- the ending where one of the two files could not be read whole: over modelled files a refusal for its size, if it is no
-- fault of the outside
abbrev pub IsUnreadEnding : {F : Type 0} → (F → FilesView) → Inputs → F → F → Ending → Type 0
IsUnreadEnding view i old new e = IsInputsEnding view AnyCase NoFault i old new e

-- the bytes of the two files, or the ending
abbrev pub ReadsBytes : {F : Type 0} → (F → FilesView) → Inputs → F → F → Result (Vec ℕ × Vec ℕ) Ending → Type 0
ReadsBytes view i old new result =
    MatchResult result (λ both. HasBytes view i old new both.0.items both.1.items) (IsUnreadEnding view i old new)
