-- A query's first fault with its file: without the file it is the first name fault, and expansion keeps it.
use Rattle.std.{proofs.Common.{◌≡◌, Bool, true, false, List, [], ◌∷◌, Option, Some, None, cond, refl, sym, ap, subst, ◌∙◌}, specs.Option.{option_or}}
use Rattle.pc_common.specs.{Names.{same_name}, declared.fault.Which.{Which, TheVariants.{Model, Query}}}
use Rattle.pc_syntax.specs.declared.model.StageItem.{StageItem}
use Rattle.pc_syntax.specs.Written.{Written, not_, and_, or_, implies_, forall_, exists_, static_, nodes_, edges_, expand_, bind_, MacroAt}
use Rattle.pc_syntax.specs.{Expansion.{parameter_names, expansion_of}, Scope.{Scope, quantified_in, bound_in}, Fault.{Fault, first_fault}}
use Rattle.pc_syntax.specs.{NameFaults.{scope_fault, static_fault, node_fault, edge_fault, binding_fault, name_fault}, Closed.{PlainClosed}}
use Rattle.pc_syntax.specs.Closing.{IsClosingOf}
use Rattle.scope_check.specs.FirstFault.{IsNoneOr, Answers, name_fault_of}
use Rattle.scope_check.specs.QueryFaults.{FiledFault, filed, query_fault, fault_within, IsClosingWithin, IsFiledOr, AnswersIn, unfiled}
use Rattle.scope_check.specs.declared.fault.NameFault.{NameFault}

-- without its file a fault is what it was
pub unfiled_filed : (file : Which) (o : Option Fault) → unfiled (filed file o) ≡ o
unfiled_filed file None = refl
unfiled_filed file (Some f) = refl

pub unfiled_or : (a b : Option FiledFault) → unfiled (option_or a b) ≡ option_or (unfiled a) (unfiled b)
unfiled_or None b = refl
unfiled_or (Some p) b = refl

unfiled_cond : (b : Bool) (x y : Option FiledFault) (v w : Option Fault) → unfiled x ≡ v → unfiled y ≡ w → unfiled (cond b x y) ≡ cond b v w
unfiled_cond true x y v w e f = e
unfiled_cond false x y v w e f = f

-- without its file the first fault is the first name fault
pub within_faults : (file : Which) (stages : List StageItem) (ms : List MacroAt) (scope : Scope) (w : Written)
    → unfiled (fault_within file stages ms scope w) ≡ name_fault stages ms scope w
within_faults file stages ms scope (not_ p) = within_faults file stages ms scope p
within_faults file stages ms scope (and_ p q) =
    unfiled_or (fault_within file stages ms scope p) (fault_within file stages ms scope q)
    ∙ (λ i. option_or (within_faults file stages ms scope p i) (within_faults file stages ms scope q i))
within_faults file stages ms scope (or_ p q) =
    unfiled_or (fault_within file stages ms scope p) (fault_within file stages ms scope q)
    ∙ (λ i. option_or (within_faults file stages ms scope p i) (within_faults file stages ms scope q i))
within_faults file stages ms scope (implies_ p q) =
    unfiled_or (fault_within file stages ms scope p) (fault_within file stages ms scope q)
    ∙ (λ i. option_or (within_faults file stages ms scope p i) (within_faults file stages ms scope q i))
within_faults file stages ms scope (forall_ at sort name p) =
    let inside = quantified_in scope name sort in
    unfiled_or (filed file (scope_fault at inside)) (fault_within file stages ms inside p)
    ∙ (λ i. option_or (unfiled_filed file (scope_fault at inside) i) (within_faults file stages ms inside p i))
within_faults file stages ms scope (exists_ at sort name p) =
    let inside = quantified_in scope name sort in
    unfiled_or (filed file (scope_fault at inside)) (fault_within file stages ms inside p)
    ∙ (λ i. option_or (unfiled_filed file (scope_fault at inside) i) (within_faults file stages ms inside p i))
within_faults file stages ms scope (static_ pred args) = unfiled_filed file (static_fault scope pred args)
within_faults file stages ms scope (nodes_ ts) = unfiled_filed file (first_fault (node_fault stages scope) ts)
within_faults file stages ms scope (edges_ ts) = unfiled_filed file (first_fault (edge_fault stages scope) ts)
within_faults file stages ms scope (bind_ at names args p) =
    let inside = bound_in scope names args in
    unfiled_or (filed file (binding_fault scope at names args)) (fault_within Model stages ms inside p)
    ∙ (λ i. option_or (unfiled_filed file (binding_fault scope at names args) i) (within_faults Model stages ms inside p i))
within_faults file stages [] scope (expand_ at name args) = refl
within_faults file stages (m ∷ ms) scope (expand_ at name args) =
    let inside = bound_in scope (parameter_names m) args in
    let outer = binding_fault scope at (parameter_names m) args in
    let body = fault_within Model stages ms inside m.body in
    unfiled_cond (same_name m.name.name name.name) (option_or (filed file outer) body) (fault_within file stages ms scope (expand_ at name args))
    (option_or outer (name_fault stages ms inside m.body)) (name_fault stages ms scope (expand_ at name args))
    (unfiled_or (filed file outer) body ∙ (λ i. option_or (unfiled_filed file outer i) (within_faults Model stages ms inside m.body i)))
    (within_faults file stages ms scope (expand_ at name args))

pub query_faults : (stages : List StageItem) (ms : List MacroAt) (scope : Scope) (w : Written)
    → unfiled (query_fault stages ms scope w) ≡ name_fault stages ms scope w
query_faults stages ms scope w = within_faults Query stages ms scope w

-- so what the walk closes is a closing, and its faults are those
pub closing_within : (file : Which) (stages : List StageItem) (scope : Scope) (w : Written) (c : PlainClosed)
    → IsClosingWithin file stages scope w c → IsClosingOf stages scope w c
closing_within file stages scope w c is =
    record { no_fault = sym (within_faults file stages [] scope w) ∙ ap unfiled is.no_fault; closing = is.closing }

unfiled_answer : (first : Option FiledFault) (file : Which) (o : Option Fault) → IsFiledOr first file o
    → IsNoneOr (unfiled first) o
unfiled_answer first file None h = tt
unfiled_answer first file (Some f) h = ap unfiled h

pub answer_within : (stages : List StageItem) (scope : Scope) (w : Written) (file : Which) (f : NameFault)
    → AnswersIn (fault_within Model stages [] scope w) file f → Answers (name_fault stages [] scope w) f
answer_within stages scope w file f h =
    let P : Option Fault → Type 0 = λ o. IsNoneOr o (name_fault_of f) in
    subst P (within_faults Model stages [] scope w) (unfiled_answer (fault_within Model stages [] scope w) file (name_fault_of f) h)

-- no fault without a file is none with one
pub none_filed : (o : Option FiledFault) → unfiled o ≡ None → o ≡ None
none_filed None h = refl
none_filed (Some p) h = cc

-- what is read off the formula that a test chooses
choose : {A : Type 0} (f : Written → A) (b : Bool) (x y : A) (v w : Written) → x ≡ f v → y ≡ f w → cond b x y ≡ f (cond b v w)
choose f true x y v w p q = p
choose f false x y v w p q = q

-- a formula's first fault is that of its expansion
within_expansion : (file : Which) (stages : List StageItem) (ms : List MacroAt) (scope : Scope) (w : Written)
    → fault_within file stages ms scope w ≡ fault_within file stages [] scope (expansion_of ms w)
within_expansion file stages ms scope (not_ p) = within_expansion file stages ms scope p
within_expansion file stages ms scope (and_ p q) =
    λ i. option_or (within_expansion file stages ms scope p i) (within_expansion file stages ms scope q i)
within_expansion file stages ms scope (or_ p q) =
    λ i. option_or (within_expansion file stages ms scope p i) (within_expansion file stages ms scope q i)
within_expansion file stages ms scope (implies_ p q) =
    λ i. option_or (within_expansion file stages ms scope p i) (within_expansion file stages ms scope q i)
within_expansion file stages ms scope (forall_ at sort name p) =
    let inside = quantified_in scope name sort in
    λ i. option_or (filed file (scope_fault at inside)) (within_expansion file stages ms inside p i)
within_expansion file stages ms scope (exists_ at sort name p) =
    let inside = quantified_in scope name sort in
    λ i. option_or (filed file (scope_fault at inside)) (within_expansion file stages ms inside p i)
within_expansion file stages ms scope (static_ pred args) = refl
within_expansion file stages ms scope (nodes_ ts) = refl
within_expansion file stages ms scope (edges_ ts) = refl
within_expansion file stages ms scope (bind_ at names args p) =
    λ i. option_or (filed file (binding_fault scope at names args)) (within_expansion Model stages ms (bound_in scope names args) p i)
within_expansion file stages [] scope (expand_ at name args) = refl
within_expansion file stages (m ∷ ms) scope (expand_ at name args) =
    choose (λ w. fault_within file stages [] scope w) (same_name m.name.name name.name) _ _
    (bind_ at (parameter_names m) args (expansion_of ms m.body))
    (expansion_of ms (expand_ at name args))
    (λ i. option_or
    (filed file (binding_fault scope at (parameter_names m) args))
    (within_expansion Model stages ms (bound_in scope (parameter_names m) args) m.body i))
    (within_expansion file stages ms scope (expand_ at name args))

pub query_expansion : (stages : List StageItem) (ms : List MacroAt) (scope : Scope) (w : Written)
    → query_fault stages ms scope w ≡ query_fault stages [] scope (expansion_of ms w)
query_expansion stages ms scope w = within_expansion Query stages ms scope w
