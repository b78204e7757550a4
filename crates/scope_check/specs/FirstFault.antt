-- Which fault an answer names.
use Rattle.std.specs.Prelude.{◌≡◌, Option, Some, None}
use Rattle.pc_common.specs.declared.fault.FaultKind.TheVariants.{PredicateUnknown, Arity, Unbound, WrongSort, CoreNumber, StageUnknown, TooManyVariables}
use Rattle.pc_syntax.specs.Fault.{Fault}
use Rattle.scope_check.specs.declared.fault.NameFault.{NameFault}
use Rattle.scope_check.specs.declared.fault.NameFault.TheVariants.{Unbound as unbound, WrongSort as wrong_sort, UnknownPredicate as unknown_predicate, Arity as arity, UnknownStage as unknown_stage, CoreNumber as core_number, TooManyVariables as too_many_variables, Memory as memory}

-- the fault that an answer names, if it names one
abbrev pub name_fault_of : NameFault → Option Fault
name_fault_of (unbound at) = Some (Unbound, at)
name_fault_of (wrong_sort at) = Some (WrongSort, at)
name_fault_of (unknown_predicate at) = Some (PredicateUnknown, at)
name_fault_of (arity at found wanted) = Some (Arity found wanted, at)
name_fault_of (unknown_stage at) = Some (StageUnknown, at)
name_fault_of (core_number at number) = Some (CoreNumber number, at)
name_fault_of (too_many_variables at limit) = Some (TooManyVariables limit, at)
name_fault_of memory = None

-- nothing, or the first fault
abbrev pub IsNoneOr : Option Fault → Option Fault → Type 0
IsNoneOr first None = Unit {0}
IsNoneOr first (Some f) = first ≡ Some f

-- the answer is the first fault; that memory was refused is tied to nothing
abbrev pub Answers : Option Fault → NameFault → Type 0
Answers first f = IsNoneOr first (name_fault_of f)
