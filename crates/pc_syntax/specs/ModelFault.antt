-- The first fault of what a model says: of its stages, then its macros, its sizes, its names.
use Rattle.std.specs.{Prelude.{Option}, Option.{option_or}}
use Rattle.pc_syntax.specs.{Written.{WrittenModel}, Fault.{Fault}, StageFaults.{first_stage_fault}, MacroFaults.{first_macro_fault}, Sizes.{first_size_fault}}
use Rattle.pc_syntax.specs.NameFaults.{first_name_fault}

abbrev pub first_model_fault : WrittenModel → Option Fault
first_model_fault m =
    option_or (first_stage_fault m)
    (option_or (first_macro_fault m)
    (option_or (first_size_fault m) (first_name_fault m)))
