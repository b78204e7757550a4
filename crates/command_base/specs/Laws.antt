-- What holds of every two files, and of all words.
use Rattle.std.specs.Prelude.{◌≡◌, ◌⊎◌, List, ℕ}
use Rattle.pc_common.specs.{Case.{Case}, declared.fault.InputFault.{InputFault}}
use Rattle.pc_syntax.specs.Written.{WrittenModel}
use Rattle.command_base.specs.{Inputs.{Inputs, Contents, IsRead, Says, IsFirstInputFault}, Command.{Command, IsCommand}}

module _ (case_of : List ℕ → Case → Type 0) (first_fault : List ℕ → List ℕ → InputFault → Type 0)
    (holds : Contents) where
  -- the two files have one first fault
  abbrev pub HasOneFirstFault : Type 0
  HasOneFirstFault = (i : Inputs) (f g : InputFault) → IsFirstInputFault first_fault holds i f
      → IsFirstInputFault first_fault holds i g → f ≡ g

  -- two files that are read say a model and a case, or have a first fault
  abbrev pub HasCaseOrFault : Type 0
  HasCaseOrFault =
      (i : Inputs) (model_bytes test_bytes : List ℕ) → IsRead holds i.model model_bytes → IsRead holds i.test test_bytes
      → ((m : WrittenModel) × (c : Case) × Says case_of holds i m c)
      ⊎ ((f : InputFault) × IsFirstInputFault first_fault holds i f)

  -- two files say one model and one case
  abbrev pub HasOneCase : Type 0
  HasOneCase =
      (i : Inputs) (m n : WrittenModel) (c d : Case) → Says case_of holds i m c → Says case_of holds i n d
      → (m ≡ n) × (c ≡ d)

  -- never both
  abbrev pub InputsExcludeFault : Type 0
  InputsExcludeFault =
      (i : Inputs) (m : WrittenModel) (c : Case) (f : InputFault) → Says case_of holds i m c
      → IsFirstInputFault first_fault holds i f → ⊥

-- the words are one command at most
abbrev pub IsOneCommand : List (List ℕ) → Type 0
IsOneCommand words = (c d : Command) → IsCommand words c → IsCommand words d → c ≡ d
