-- What the two files of a command say together, and their first fault. The form of the second file is two relations:
-- which case its bytes say, and which fault is the first of a model's bytes and its own.
use Rattle.std.specs.Prelude.{◌≡◌, ◌⊎◌, ℕ, ◌<◌, ◌≤◌, List, Option, Some, None, length}
use Rattle.pc_common.specs.{Case.{Case}, declared.fault.{FaultKind.TheVariants.{TooLarge}, InputFault.{InputFault}, Which.{Which, TheVariants.{Model, Test}}}}
use Rattle.pc_common.specs.declared.place.Place.{Place}
use Rattle.pc_syntax.specs.Written.{WrittenModel}
use Rattle.pc_front.specs.{declared.limits.TheConstants.{MAX_FILE}, Front.{SaysModel, fault_at}}
use Rattle.command_base.specs.declared.inputs.Inputs.{Inputs as CodeInputs}

-- the names of a model and of a second file
pub record Inputs : Type 0 where
  pub model : List ℕ
  pub test : List ℕ

-- without pointers
abbrev pub plain_inputs : CodeInputs → Inputs
plain_inputs i = record { model = i.model.now; test = i.test.now }

-- what a name holds, by name
abbrev pub Contents : Type 0
Contents = List ℕ → Option (List ℕ)

-- the file is held and within the limit
pub record IsRead (holds : Contents) (name bytes : List ℕ) : Type 0 where
  pub held : holds name ≡ Some bytes
  pub within : length bytes ≤ MAX_FILE

pub record IsTooLarge (holds : Contents) (name : List ℕ) : Type 0 where
  pub bytes : List ℕ
  pub held : holds name ≡ Some bytes
  pub past : MAX_FILE < length bytes

abbrev pub start : Place
start = record { offset = 0 }

abbrev pub too_large : Which → InputFault
too_large file = fault_at file (TooLarge MAX_FILE) start

-- the first fault: size as the files are read, the model's first; then that of the bytes of the two
pub data IsFirstInputFault (first_fault : List ℕ → List ℕ → InputFault → Type 0) (holds : Contents) (i : Inputs)
    : InputFault → Type 0 where
  large_model : IsTooLarge holds i.model → IsFirstInputFault first_fault holds i (too_large Model)
  large_test : {mb : List ℕ} → IsRead holds i.model mb → IsTooLarge holds i.test
      → IsFirstInputFault first_fault holds i (too_large Test)
  in_bytes : {mb tb : List ℕ} {fault : InputFault} → IsRead holds i.model mb → IsRead holds i.test tb
      → first_fault mb tb fault
      → IsFirstInputFault first_fault holds i fault

-- the model and the case that the two files say
pub record Says (case_of : List ℕ → Case → Type 0) (holds : Contents) (i : Inputs) (m : WrittenModel)
    (c : Case) : Type 0 where
  pub model_bytes : List ℕ
  pub test_bytes : List ℕ
  pub model_read : IsRead holds i.model model_bytes
  pub test_read : IsRead holds i.test test_bytes
  pub says_model : SaysModel model_bytes m
  pub says_case : case_of test_bytes c

-- a name that is come to is not held: the model's, or, where the model was read, the second file's
abbrev pub LacksInput : Contents → Inputs → Type 0
LacksInput holds i = (holds i.model ≡ None) ⊎ (((bytes : List ℕ) × IsRead holds i.model bytes) × (holds i.test ≡ None))
