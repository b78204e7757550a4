-- The first fault of a formula's names, outside before inside and left before right, with its macros
-- followed into their bodies. The macros that a formula may name are listed latest first.
use Rattle.std.specs.{Prelude.{ℕ, List, [], ◌∷◌, Option, Some, None, length, nat_lt, ◌==◌, if◌then◌else◌}, Option.{option_or}}
use Rattle.pc_common.specs.{Names.{same_name}, declared.place.Place.{Place}}
use Rattle.pc_common.specs.declared.fault.FaultKind.TheVariants.{PredicateUnknown, Arity, Unbound, WrongSort, CoreNumber, StageUnknown, TooManyVariables}
use Rattle.pc_common.specs.declared.limits.TheConstants.{MAX_CORE}
use Rattle.pc_syntax.specs.declared.{limits.TheConstants.{MAX_VARIABLES}, term.{Sort.{Sort, TheVariants.{Microop, Core}}, Word.{Word}, Arg.{Arg}}}
use Rattle.pc_syntax.specs.declared.term.{Arg.TheVariants.{Word as word_arg, Number as number_arg}, NodeTerm.{NodeTerm}, EdgeTerm.{EdgeTerm}}
use Rattle.pc_syntax.specs.declared.{model.StageItem.{StageItem}, pred.Takes.{Takes, TheVariants.{Op as takes_op, Core as takes_core, Plain as takes_plain}}}
use Rattle.pc_syntax.specs.Predicates.{takes_of, pred_with_name}
use Rattle.pc_syntax.specs.Written.{Written, not_, and_, or_, implies_, forall_, exists_, static_, nodes_, edges_, expand_, bind_, MacroAt, WrittenModel}
use Rattle.pc_syntax.specs.{Observable.{axioms_of, macros_of}, Stages.{stage_number_of}, Expansion.{parameter_names}}
use Rattle.pc_syntax.specs.{Scope.{Scope, binding_of, quantified_in, bound_in}, Fault.{Fault, first_fault}}

-- the wrong sort where this one is wanted
abbrev pub sort_fault : Place → Sort → Sort → Option Fault
sort_fault at Microop Microop = None
sort_fault at Core Core = None
sort_fault at _ _ = Some (WrongSort, at)

-- a variable of this sort is asked for
abbrev pub variable_fault : Scope → Sort → Word → Option Fault
variable_fault scope wanted w =
    elim (binding_of scope w.name) [ None ↦ Some (Unbound, w.at) | Some b ↦ sort_fault w.at wanted b.sort ]

-- a core number is over the greatest
abbrev pub core_fault : ℕ → Place → Option Fault
core_fault n at = if nat_lt MAX_CORE n then Some (CoreNumber n, at) else None

-- an argument that is not of the kind that is taken
abbrev pub argument_fault : Scope → Takes → Arg → Option Fault
argument_fault scope takes_op (word_arg w) = variable_fault scope Microop w
argument_fault scope takes_op (number_arg n at) = Some (WrongSort, at)
argument_fault scope takes_core (word_arg w) = variable_fault scope Core w
argument_fault scope takes_core (number_arg n at) = core_fault n at
argument_fault scope takes_plain (word_arg w) = None
argument_fault scope takes_plain (number_arg n at) = Some (WrongSort, at)

-- the first fault of a predicate's arguments
abbrev pub arguments_fault : Scope → List Takes → List Arg → Option Fault
arguments_fault scope (t ∷ ts) (a ∷ as_) = option_or (argument_fault scope t a) (arguments_fault scope ts as_)
arguments_fault scope _ _ = None

-- another number of arguments than the predicate takes
abbrev pub arity_fault : Word → List Arg → List Takes → Option Fault
arity_fault pred args takes =
    if length args == length takes then None else Some (Arity (length args) (length takes), pred.at)

-- a predicate's name, then the number of its arguments, then the arguments
abbrev pub static_fault : Scope → Word → List Arg → Option Fault
static_fault scope pred args =
    elim (pred_with_name pred.name) [
      | None ↦ Some (PredicateUnknown, pred.at)
      | Some p ↦ option_or (arity_fault pred args (takes_of p)) (arguments_fault scope (takes_of p) args)
    ]

-- no stage has the name
abbrev pub stage_name_fault : List StageItem → Word → Option Fault
stage_name_fault stages w = elim (stage_number_of stages w.name) [ None ↦ Some (StageUnknown, w.at) | Some n ↦ None ]

abbrev pub location_fault : Scope → Option Arg → Option Fault
location_fault scope None = None
location_fault scope (Some core) = argument_fault scope takes_core core

-- a node's micro-op, then its core, then its stage
abbrev pub node_fault : List StageItem → Scope → NodeTerm → Option Fault
node_fault stages scope t =
    option_or (variable_fault scope Microop t.op)
    (option_or (location_fault scope t.core) (stage_name_fault stages t.stage))

-- an edge's first node, then its second
abbrev pub edge_fault : List StageItem → Scope → EdgeTerm → Option Fault
edge_fault stages scope t = option_or (node_fault stages scope t.from) (node_fault stages scope t.to)

-- an argument of an expansion is a variable of either sort or a core number
abbrev pub value_fault : Scope → Arg → Option Fault
value_fault scope (word_arg w) = elim (binding_of scope w.name) [ None ↦ Some (Unbound, w.at) | Some b ↦ None ]
value_fault scope (number_arg n at) = core_fault n at

-- too many variables are in the scope
abbrev pub scope_fault : Place → Scope → Option Fault
scope_fault at scope = if nat_lt MAX_VARIABLES (length scope) then Some (TooManyVariables MAX_VARIABLES, at) else None

-- an expansion's arguments, then the number of variables inside it
abbrev pub binding_fault : Scope → Place → List (List ℕ) → List Arg → Option Fault
binding_fault scope at names args =
    option_or (first_fault (value_fault scope) args) (scope_fault at (bound_in scope names args))

-- the first name fault of a formula in a scope
abbrev pub name_fault : List StageItem → List MacroAt → Scope → Written → Option Fault
name_fault stages ms scope (not_ p) = name_fault stages ms scope p
name_fault stages ms scope (and_ p q) = option_or (name_fault stages ms scope p) (name_fault stages ms scope q)
name_fault stages ms scope (or_ p q) = option_or (name_fault stages ms scope p) (name_fault stages ms scope q)
name_fault stages ms scope (implies_ p q) = option_or (name_fault stages ms scope p) (name_fault stages ms scope q)
name_fault stages ms scope (forall_ at sort name p) =
    let inside = quantified_in scope name sort in option_or (scope_fault at inside) (name_fault stages ms inside p)
name_fault stages ms scope (exists_ at sort name p) =
    let inside = quantified_in scope name sort in option_or (scope_fault at inside) (name_fault stages ms inside p)
name_fault stages ms scope (static_ pred args) = static_fault scope pred args
name_fault stages ms scope (nodes_ ts) = first_fault (node_fault stages scope) ts
name_fault stages ms scope (edges_ ts) = first_fault (edge_fault stages scope) ts
name_fault stages ms scope (bind_ at names args p) =
    option_or (binding_fault scope at names args) (name_fault stages ms (bound_in scope names args) p)
name_fault stages [] scope (expand_ at name args) = None
name_fault stages (m ∷ ms) scope (expand_ at name args) =
    if same_name m.name.name name.name
    then option_or
    (binding_fault scope at (parameter_names m) args)
    (name_fault stages ms (bound_in scope (parameter_names m) args) m.body)
    else name_fault stages ms scope (expand_ at name args)

-- the first name fault of a model: its axioms in order, each with all macros of the file
abbrev pub first_name_fault : WrittenModel → Option Fault
first_name_fault m = first_fault (name_fault m.stages (macros_of m) []) (axioms_of m)
