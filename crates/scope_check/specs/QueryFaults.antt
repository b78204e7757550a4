-- The first name fault of a formula that is asked of a model, with the file in which it stands.
use Rattle.std.specs.{Prelude.{◌≡◌, List, [], ◌∷◌, Option, Some, None, if◌then◌else◌}, Option.{option_or}}
use Rattle.pc_common.specs.{Names.{same_name}, declared.fault.Which.{Which, TheVariants.{Model, Query}}}
use Rattle.pc_syntax.specs.declared.model.StageItem.{StageItem}
use Rattle.pc_syntax.specs.Written.{Written, not_, and_, or_, implies_, forall_, exists_, static_, nodes_, edges_, expand_, bind_, MacroAt}
use Rattle.pc_syntax.specs.{Expansion.{parameter_names}, Scope.{Scope, quantified_in, bound_in}, Fault.{Fault, first_fault}}
use Rattle.pc_syntax.specs.{NameFaults.{scope_fault, static_fault, node_fault, edge_fault, binding_fault, name_fault}, Closed.{PlainClosed}}
use Rattle.pc_syntax.specs.Closing.{closing_of}
use Rattle.scope_check.specs.{FirstFault.{name_fault_of}, declared.fault.NameFault.{NameFault}}

-- a fault and the file in which it stands
abbrev pub FiledFault : Type 0
FiledFault = Which × Fault

-- in this file
abbrev pub filed : Which → Option Fault → Option FiledFault
filed file None = None
filed file (Some f) = Some (file, f)

-- the first name fault of a formula that stands in this file, as `name_fault` has it. What the formula itself says
-- stands in this file; the body of a macro stands in the model, and what is in it too
abbrev pub fault_within : Which → List StageItem → List MacroAt → Scope → Written → Option FiledFault
fault_within file stages ms scope (not_ p) = fault_within file stages ms scope p
fault_within file stages ms scope (and_ p q) =
    option_or (fault_within file stages ms scope p) (fault_within file stages ms scope q)
fault_within file stages ms scope (or_ p q) =
    option_or (fault_within file stages ms scope p) (fault_within file stages ms scope q)
fault_within file stages ms scope (implies_ p q) =
    option_or (fault_within file stages ms scope p) (fault_within file stages ms scope q)
fault_within file stages ms scope (forall_ at sort name p) =
    let inside = quantified_in scope name sort in
    option_or (filed file (scope_fault at inside)) (fault_within file stages ms inside p)
fault_within file stages ms scope (exists_ at sort name p) =
    let inside = quantified_in scope name sort in
    option_or (filed file (scope_fault at inside)) (fault_within file stages ms inside p)
fault_within file stages ms scope (static_ pred args) = filed file (static_fault scope pred args)
fault_within file stages ms scope (nodes_ ts) = filed file (first_fault (node_fault stages scope) ts)
fault_within file stages ms scope (edges_ ts) = filed file (first_fault (edge_fault stages scope) ts)
fault_within file stages ms scope (bind_ at names args p) =
    option_or
    (filed file (binding_fault scope at names args))
    (fault_within Model stages ms (bound_in scope names args) p)
fault_within file stages [] scope (expand_ at name args) = None
fault_within file stages (m ∷ ms) scope (expand_ at name args) =
    if same_name m.name.name name.name
    then option_or
    (filed file (binding_fault scope at (parameter_names m) args))
    (fault_within Model stages ms (bound_in scope (parameter_names m) args) m.body)
    else fault_within file stages ms scope (expand_ at name args)

-- that of a formula that is asked of a model
abbrev pub query_fault : List StageItem → List MacroAt → Scope → Written → Option FiledFault
query_fault stages ms scope w = fault_within Query stages ms scope w

-- the file of a fault of what stands in this file; want of memory stands in no file, and is told of the query
abbrev pub file_of_fault : Which → Option Fault → Which
file_of_fault file None = Query
file_of_fault file (Some f) = file

-- no fault with the query's file, or the first fault with its own
abbrev pub IsFiledOr : Option FiledFault → Which → Option Fault → Type 0
IsFiledOr first file None = file ≡ Query
IsFiledOr first file (Some f) = first ≡ Some (file, f)

-- the answer is the first fault, and this is its file; that memory was refused is tied to nothing
abbrev pub AnswersIn : Option FiledFault → Which → NameFault → Type 0
AnswersIn first file f = IsFiledOr first file (name_fault_of f)

-- c is what closing makes of the expanded formula e of this file, which has no name fault in the scope
pub record IsClosingWithin (file : Which) (stages : List StageItem) (scope : Scope) (e : Written) (c : PlainClosed) : Type 0 where
  pub no_fault : fault_within file stages [] scope e ≡ None
  pub closing : c ≡ closing_of stages scope e

-- what a denial denies; of another formula itself
abbrev pub asked : Written → Written
asked (not_ p) = p
asked w = w

-- the formula is a denial
abbrev pub IsDenial : Written → Type 0
IsDenial (not_ p) = Unit {0}
IsDenial (and_ p q) = ⊥
IsDenial (or_ p q) = ⊥
IsDenial (implies_ p q) = ⊥
IsDenial (forall_ at sort name p) = ⊥
IsDenial (exists_ at sort name p) = ⊥
IsDenial (static_ pred args) = ⊥
IsDenial (nodes_ ts) = ⊥
IsDenial (edges_ ts) = ⊥
IsDenial (expand_ at name args) = ⊥
IsDenial (bind_ at names args p) = ⊥

-- the fault without its file
abbrev pub unfiled : Option FiledFault → Option Fault
unfiled None = None
unfiled (Some (file, f)) = Some f

-- the file is all that `fault_within` adds
abbrev pub QueryFaultsAreNameFaults : Type 0
QueryFaultsAreNameFaults =
    (stages : List StageItem) (ms : List MacroAt) (scope : Scope) (w : Written)
    → unfiled (query_fault stages ms scope w) ≡ name_fault stages ms scope w
