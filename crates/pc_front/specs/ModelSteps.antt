-- The steps of reading a whole model.
use Rattle.std.specs.Prelude.{◌≡◌, List, [], Option, None, map}
use Rattle.pc_syntax.specs.{declared.{expanded.Expanded.{Expanded}, model.StageItem.{StageItem}}, Written.{written, WrittenModel}, Fault.{Fault, first_fault}}
use Rattle.pc_syntax.specs.{NameFaults.{name_fault}, ModelFault.{first_model_fault}, Closed.{PlainClosed}, Closing.{closing_of}}
use Rattle.scope_check.specs.FirstFault.{IsNoneOr}
use Rattle.pc_front.specs.{declared.model_front.FrontEnd.{FrontEnd}, Ends.{end_of}}

-- of an expanded axiom, where these are the stages
abbrev pub axiom_fault : List StageItem → Expanded → Option Fault
axiom_fault stages e = name_fault stages [] [] (written e.body)

abbrev pub closing_of_axiom : List StageItem → Expanded → PlainClosed
closing_of_axiom stages e = closing_of stages [] (written e.body)

-- no axiom has a name fault, and these are the closed ones, in order
pub record AreClosings (stages : List StageItem) (axioms : List Expanded) (closed : List PlainClosed) : Type 0 where
  pub no_fault : first_fault (axiom_fault stages) axioms ≡ None
  pub closings : closed ≡ map (closing_of_axiom stages) axioms

-- the end is that of the model's first fault, or memory was refused
abbrev pub IsFirstEnd : WrittenModel → FrontEnd → Type 0
IsFirstEnd m end = (o : Option Fault) × IsNoneOr (first_model_fault m) o × (end ≡ end_of o)
