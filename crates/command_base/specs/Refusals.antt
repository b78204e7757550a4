-- The refusal of two files by their first fault.
use Rattle.std.specs.{Prelude.{◌≡◌, ℕ, List, [], ◌++◌, codes, Some}, Fmt.{decimal}}
use Rattle.pc_common.specs.declared.{status.Status.{Status, TheVariants.{Refused}}, fault.Which.{Which, TheVariants.{Model, Test, Query}}}
use Rattle.pc_common.specs.{declared.fault.InputFault.{InputFault}, LineColumn.{line_of, column_of}}
use Rattle.command_base.specs.{Words.{fault_word, file_word}, Inputs.{Inputs, Contents, IsFirstInputFault}}

-- a fault of a file with these bytes: the file, the word, the line and the column
abbrev pub refused_text : List ℕ → InputFault → List ℕ
refused_text bytes f =
    codes "refused " ++ file_word f.file ++ codes " " ++ fault_word f.kind ++ codes " at "
    ++ decimal (line_of bytes f.place.offset) ++ codes ":" ++ decimal (column_of bytes f.place.offset) ++ codes "\n"

abbrev pub name_of : Which → Inputs → List ℕ
name_of Model i = i.model
name_of Test i = i.test
name_of Query i = []  -- no query is read

-- the two files are refused by their first fault
pub data IsInputRefusal (first_fault : List ℕ → List ℕ → InputFault → Type 0) (holds : Contents) (i : Inputs)
    : Status → List ℕ → Type 0 where
  refusal : {bytes : List ℕ} {fault : InputFault} → IsFirstInputFault first_fault holds i fault
      → holds (name_of fault.file i) ≡ Some bytes
      → IsInputRefusal first_fault holds i Refused (refused_text bytes fault)
