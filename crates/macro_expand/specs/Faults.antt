-- What an answer of this crate says of a model.
use Rattle.std.specs.{Prelude.{◌≡◌, List, map, Option, Some, None, Result, Ok, Err, MatchOption}, Option.{option_or}}
use Rattle.pc_common.specs.declared.fault.FaultKind.TheVariants.{MacroAgain, ParameterAgain as parameter_again, MacroUnknown, MacroArguments, TooDeep as too_deep, TooBig as too_big}
use Rattle.pc_syntax.specs.{Written.{written, WrittenModel}, Observable.{axioms_of, macros_of}, Expansion.{expansion_of}, Fault.{Fault}}
use Rattle.pc_syntax.specs.{MacroFaults.{first_macro_fault}, Sizes.{first_size_fault}, declared.expanded.Expanded.{Expanded}}
use Rattle.macro_expand.specs.declared.fault.MacroFault.{MacroFault, TheVariants.{Again, ParameterAgain, Unknown, Arguments, TooDeep, TooBig, Memory}}

-- the fault that an answer tells of, with its place
abbrev pub macro_fault_of : MacroFault → Option Fault
macro_fault_of (Again at first again) = Some (MacroAgain first again, at)
macro_fault_of (ParameterAgain at first again) = Some (parameter_again first again, at)
macro_fault_of (Unknown at) = Some (MacroUnknown, at)
macro_fault_of (Arguments at found wanted) = Some (MacroArguments found wanted, at)
macro_fault_of (TooDeep at limit) = Some (too_deep limit, at)
macro_fault_of (TooBig at limit) = Some (too_big limit, at)
macro_fault_of Memory = None

-- the fault is what the answer tells of, if it tells of one: memory may be refused at any time
abbrev pub IsFault : Option Fault → MacroFault → Type 0
IsFault fault answer = MatchOption (macro_fault_of answer) (Unit {0}) (λ told. fault ≡ Some told)

-- an answer comes where there is no fault, and an error tells of the fault
abbrev pub Judges : {A : Type 0} → Option Fault → Result A MacroFault → Type 0
Judges fault (Ok x) = fault ≡ None
Judges fault (Err answer) = IsFault fault answer

-- the first fault of the model's macros, or if they have none, of its sizes
abbrev pub first_fault_of : WrittenModel → Option Fault
first_fault_of m = option_or (first_macro_fault m) (first_size_fault m)

abbrev pub IsFirstMacroFault : WrittenModel → MacroFault → Type 0
IsFirstMacroFault m answer = IsFault (first_fault_of m) answer

abbrev pub IsExpandable : WrittenModel → Type 0
IsExpandable m = (first_macro_fault m ≡ None) × (first_size_fault m ≡ None)

-- the model's axioms in order, each with its macros expanded
abbrev pub AreExpansions : WrittenModel → List Expanded → Type 0
AreExpansions m es = map (λ e. written e.body) es ≡ map (expansion_of (macros_of m)) (axioms_of m)
