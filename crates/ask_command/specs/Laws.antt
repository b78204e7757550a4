-- What holds of the bytes of every query.
use Rattle.std.specs.Prelude.{◌≡◌, ◌⊎◌, ℕ, List}
use Rattle.pc_common.specs.declared.fault.InputFault.{InputFault}
use Rattle.pc_syntax.specs.Written.{Written, WrittenModel}
use Rattle.ask_command.specs.Queries.{FormulaOf, SaysQuery, IsQueryFault}

-- the bytes say a formula without a fault, or have a first fault
abbrev pub HasQueryOrFault : WrittenModel → List ℕ → Type 0
HasQueryOrFault m bytes = ((f : Written) × SaysQuery m bytes f) ⊎ ((fault : InputFault) × IsQueryFault m bytes fault)

abbrev pub HasOneFormula : List ℕ → Type 0
HasOneFormula bytes = (f g : Written) → FormulaOf bytes f → FormulaOf bytes g → f ≡ g

abbrev pub HasOneQueryFault : WrittenModel → List ℕ → Type 0
HasOneQueryFault m bytes = (x y : InputFault) → IsQueryFault m bytes x → IsQueryFault m bytes y → x ≡ y

-- not both
abbrev pub QueryExcludesFault : WrittenModel → List ℕ → Type 0
QueryExcludesFault m bytes = (f : Written) → SaysQuery m bytes f → (fault : InputFault) → IsQueryFault m bytes fault → ⊥
