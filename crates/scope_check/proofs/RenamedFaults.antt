-- A formula with other names has the fault that it had.
use Rattle.std.proofs.Common.{◌≡◌, ℕ, suc, ◌==◌, List, [], ◌∷◌, Option, Some, None, length, map, cond, option_map, nat_lt, refl, sym, ap, ◌∙◌}
use Rattle.std.{proofs.lemmas.List.{length-map}, specs.Option.{option_or}}
use Rattle.pc_common.specs.declared.{place.Place.{Place}, fault.Which.{Which, TheVariants.{Model, Query}}}
use Rattle.pc_common.specs.declared.fault.FaultKind.TheVariants.{PredicateUnknown, Arity, Unbound, StageUnknown, TooManyVariables}
use Rattle.pc_syntax.specs.declared.{limits.TheConstants.{MAX_VARIABLES}, term.{Sort.{Sort, TheVariants.{Microop, Core}}, Word.{Word}, Arg.{Arg}}}
use Rattle.pc_syntax.specs.declared.term.{Arg.TheVariants.{Word as word_arg, Number as number_arg}, NodeTerm.{NodeTerm}, EdgeTerm.{EdgeTerm}}
use Rattle.pc_syntax.specs.declared.{model.StageItem.{StageItem}, pred.{Pred.{Pred}, Takes.{Takes}}}
use Rattle.pc_syntax.specs.{declared.pred.Takes.TheVariants.{Op as takes_op, Core as takes_core, Plain as takes_plain}, Predicates.{pred_with_name, takes_of}}
use Rattle.pc_syntax.specs.Written.{Written, not_, and_, or_, implies_, forall_, exists_, static_, nodes_, edges_, expand_, bind_, MacroAt, WrittenModel}
use Rattle.pc_syntax.specs.{Observable.{axioms_of, macros_of}, Expansion.{parameter_names}, Scope.{Binding, Scope, binding_of, quantified_in, bound_in}}
use Rattle.pc_syntax.specs.Fault.{Fault, first_fault}
use Rattle.pc_syntax.specs.NameFaults.{sort_fault, variable_fault, argument_fault, arguments_fault, arity_fault, static_fault, stage_name_fault, location_fault, node_fault, edge_fault, value_fault, scope_fault, binding_fault, name_fault, first_name_fault}
use Rattle.pc_syntax.specs.Renaming.{Renaming, KeepsApart, renamed_word, renamed_arg, renamed_taken, renamed_args, renamed_static, renamed_node, renamed_edge, renamed, renamed_macro, renamed_model}
use Rattle.pc_syntax.proofs.RenamedItems.{names_renamed, axioms_renamed, macros_renamed}
use Rattle.scope_check.specs.{QueryFaults.{filed, fault_within, query_fault, unfiled}, Renaming.{renamed_binding}}
use Rattle.scope_check.specs.Laws.{RenamingKeepsNameFaults, RenamingKeepsFirstNameFaults, RenamingKeepsQueryFaults, RenamingKeepsAsked}
use Rattle.scope_check.proofs.FiledFaults.{query_faults}
use Rattle.scope_check.proofs.RenamedScopes.{new_scope, new_args, new_stages, new_macros, binding_renamed, stage_number_renamed, quantified_renamed, bound_renamed}

-- the first fault among changed members, each of which has the fault that it had
faults_kept : {A : Type 0} (change : A → A) (f g : A → Option Fault) → ((x : A) → f (change x) ≡ g x) → (xs : List A)
    → first_fault f (map change xs) ≡ first_fault g xs
faults_kept change f g same [] = refl
faults_kept change f g same (x ∷ xs) = λ i. option_or (same x i) (faults_kept change f g same xs i)

-- what is told of the arguments of a predicate that was looked up
abbrev looked_up : Scope → Word → List Arg → Option Pred → Option Fault
looked_up scope pred args o =
    elim o [
      | None ↦ Some (PredicateUnknown, pred.at)
      | Some p ↦ option_or (arity_fault pred args (takes_of p)) (arguments_fault scope (takes_of p) args)
    ]

module _ (ρ : Renaming) where
  -- the faults of a binding that was found
  variable_kept : (at : Place) (wanted : Sort) (o : Option Binding)
      → ◌≡◌ {A = Option Fault}
      (elim (option_map (renamed_binding ρ) o) [ None ↦ Some (Unbound, at) | Some b ↦ sort_fault at wanted b.sort ])
      (elim o [ None ↦ Some (Unbound, at) | Some b ↦ sort_fault at wanted b.sort ])
  variable_kept at wanted None = refl
  variable_kept at wanted (Some b) = refl

  value_kept : (at : Place) (o : Option Binding)
      → ◌≡◌ {A = Option Fault}
      (elim (option_map (renamed_binding ρ) o) [ None ↦ Some (Unbound, at) | Some b ↦ None ])
      (elim o [ None ↦ Some (Unbound, at) | Some b ↦ None ])
  value_kept at None = refl
  value_kept at (Some b) = refl

  -- as many arguments as before
  args_length : (ts : List Takes) (args : List Arg) → length (renamed_args ρ ts args) ≡ length args
  args_length [] args = refl
  args_length (t ∷ ts) [] = refl
  args_length (t ∷ ts) (a ∷ as_) = ap (λ (n : ℕ). suc n) (args_length ts as_)

  -- the number of variables in a scope
  scope_kept : (at : Place) (scope : Scope) → scope_fault at (new_scope ρ scope) ≡ scope_fault at scope
  scope_kept at scope =
      λ i. cond (nat_lt MAX_VARIABLES (length-map scope (renamed_binding ρ) i))
      (Some (TooManyVariables MAX_VARIABLES, at)) None

  quantified_fault : (at : Place) (scope : Scope) (name : List ℕ) (sort : Sort)
      → scope_fault at (quantified_in (new_scope ρ scope) (ρ name) sort)
      ≡ scope_fault at (quantified_in scope name sort)
  quantified_fault at scope name sort =
      ap (scope_fault at) (quantified_renamed ρ scope name sort) ∙ scope_kept at (quantified_in scope name sort)

module _ (ρ : Renaming) (apart : KeepsApart ρ) where
  -- a variable
  variable_fault_kept : (scope : Scope) (wanted : Sort) (w : Word)
      → variable_fault (new_scope ρ scope) wanted (renamed_word ρ w) ≡ variable_fault scope wanted w
  variable_fault_kept scope wanted w =
      ap
      {B = Option Fault}
      (λ (o : Option Binding). elim o [ None ↦ Some (Unbound, w.at) | Some b ↦ sort_fault w.at wanted b.sort ])
      (binding_renamed ρ apart scope w.name)
      ∙ variable_kept ρ w.at wanted (binding_of scope w.name)

  -- an argument of an expansion
  value_fault_kept : (scope : Scope) (a : Arg)
      → value_fault (new_scope ρ scope) (renamed_arg ρ a) ≡ value_fault scope a
  value_fault_kept scope (word_arg w) =
      ap
      {B = Option Fault}
      (λ (o : Option Binding). elim o [ None ↦ Some (Unbound, w.at) | Some b ↦ None ])
      (binding_renamed ρ apart scope w.name)
      ∙ value_kept ρ w.at (binding_of scope w.name)
  value_fault_kept scope (number_arg n at) = refl

  -- an argument of a predicate, which is changed where it is a variable
  argument_fault_kept : (scope : Scope) (t : Takes) (a : Arg)
      → argument_fault (new_scope ρ scope) t (renamed_taken ρ t a) ≡ argument_fault scope t a
  argument_fault_kept scope takes_op (word_arg w) = variable_fault_kept scope Microop w
  argument_fault_kept scope takes_op (number_arg n at) = refl
  argument_fault_kept scope takes_core (word_arg w) = variable_fault_kept scope Core w
  argument_fault_kept scope takes_core (number_arg n at) = refl
  argument_fault_kept scope takes_plain (word_arg w) = refl
  argument_fault_kept scope takes_plain (number_arg n at) = refl

  -- the arguments of a predicate
  arguments_fault_kept : (scope : Scope) (ts : List Takes) (args : List Arg)
      → arguments_fault (new_scope ρ scope) ts (renamed_args ρ ts args) ≡ arguments_fault scope ts args
  arguments_fault_kept scope [] args = refl
  arguments_fault_kept scope (t ∷ ts) [] = refl
  arguments_fault_kept scope (t ∷ ts) (a ∷ as_) =
      λ i. option_or (argument_fault_kept scope t a i) (arguments_fault_kept scope ts as_ i)

  -- a predicate of the table, or none
  predicate_fault_kept : (scope : Scope) (pred : Word) (args : List Arg) (o : Option Pred)
      → looked_up (new_scope ρ scope) pred (elim o [ None ↦ args | Some p ↦ renamed_args ρ (takes_of p) args ]) o
      ≡ looked_up scope pred args o
  predicate_fault_kept scope pred args None = refl
  predicate_fault_kept scope pred args (Some p) =
      λ i. option_or
      (cond (args_length ρ (takes_of p) args i == length (takes_of p))
      None
      (Some (Arity (args_length ρ (takes_of p) args i) (length (takes_of p)), pred.at)))
      (arguments_fault_kept scope (takes_of p) args i)

  static_fault_kept : (scope : Scope) (pred : Word) (args : List Arg)
      → static_fault (new_scope ρ scope) pred (renamed_static ρ pred args) ≡ static_fault scope pred args
  static_fault_kept scope pred args = predicate_fault_kept scope pred args (pred_with_name pred.name)

  -- the core of a location
  location_fault_kept : (scope : Scope) (core : Option Arg)
      → location_fault (new_scope ρ scope) (option_map (renamed_arg ρ) core) ≡ location_fault scope core
  location_fault_kept scope None = refl
  location_fault_kept scope (Some a) = argument_fault_kept scope takes_core a

  -- a node, and an edge
  node_fault_kept : (stages : List StageItem) (scope : Scope) (t : NodeTerm)
      → node_fault (new_stages ρ stages) (new_scope ρ scope) (renamed_node ρ t) ≡ node_fault stages scope t
  node_fault_kept stages scope t =
      let stage : stage_name_fault (new_stages ρ stages) (renamed_word ρ t.stage) ≡ stage_name_fault stages t.stage =
      ap
      {B = Option Fault}
      (λ (o : Option ℕ). elim o [ None ↦ Some (StageUnknown, t.stage.at) | Some n ↦ None ])
      (stage_number_renamed ρ apart stages t.stage.name) in
      λ i. option_or (variable_fault_kept scope Microop t.op i)
      (option_or (location_fault_kept scope t.core i) (stage i))

  edge_fault_kept : (stages : List StageItem) (scope : Scope) (t : EdgeTerm)
      → edge_fault (new_stages ρ stages) (new_scope ρ scope) (renamed_edge ρ t) ≡ edge_fault stages scope t
  edge_fault_kept stages scope t =
      λ i. option_or (node_fault_kept stages scope t.from i) (node_fault_kept stages scope t.to i)

  -- nodes, and edges
  nodes_fault_kept : (stages : List StageItem) (scope : Scope) (ts : List NodeTerm)
      → first_fault (node_fault (new_stages ρ stages) (new_scope ρ scope)) (map (renamed_node ρ) ts)
      ≡ first_fault (node_fault stages scope) ts
  nodes_fault_kept stages scope ts =
      faults_kept (renamed_node ρ) (node_fault (new_stages ρ stages) (new_scope ρ scope)) (node_fault stages scope)
      (node_fault_kept stages scope) ts

  edges_fault_kept : (stages : List StageItem) (scope : Scope) (ts : List EdgeTerm)
      → first_fault (edge_fault (new_stages ρ stages) (new_scope ρ scope)) (map (renamed_edge ρ) ts)
      ≡ first_fault (edge_fault stages scope) ts
  edges_fault_kept stages scope ts =
      faults_kept (renamed_edge ρ) (edge_fault (new_stages ρ stages) (new_scope ρ scope)) (edge_fault stages scope)
      (edge_fault_kept stages scope) ts

  -- a binding
  binding_fault_kept : (scope : Scope) (at : Place) (names : List (List ℕ)) (args : List Arg)
      → binding_fault (new_scope ρ scope) at (map ρ names) (new_args ρ args) ≡ binding_fault scope at names args
  binding_fault_kept scope at names args =
      let values =
      faults_kept (renamed_arg ρ) (value_fault (new_scope ρ scope)) (value_fault scope)
      (value_fault_kept scope) args in
      let inside =
      ap (scope_fault at) (bound_renamed ρ apart scope names args)
      ∙ scope_kept ρ at (bound_in scope names args) in
      λ i. option_or (values i) (inside i)

  -- the parameters of a macro with other names
  parameters_fault_kept : (scope : Scope) (at : Place) (m : MacroAt) (args : List Arg)
      → binding_fault (new_scope ρ scope) at (parameter_names (renamed_macro ρ m)) (new_args ρ args)
      ≡ binding_fault scope at (parameter_names m) args
  parameters_fault_kept scope at m args =
      ap (λ (ns : List (List ℕ)). binding_fault (new_scope ρ scope) at ns (new_args ρ args))
      (names_renamed ρ m.parameters)
      ∙ binding_fault_kept scope at (parameter_names m) args

  parameters_bound : (scope : Scope) (m : MacroAt) (args : List Arg)
      → bound_in (new_scope ρ scope) (parameter_names (renamed_macro ρ m)) (new_args ρ args)
      ≡ new_scope ρ (bound_in scope (parameter_names m) args)
  parameters_bound scope m args =
      ap (λ (ns : List (List ℕ)). bound_in (new_scope ρ scope) ns (new_args ρ args)) (names_renamed ρ m.parameters)
      ∙ bound_renamed ρ apart scope (parameter_names m) args

  module _ (stages : List StageItem) where
    -- the first fault of a formula with other names, with its file
    fault_within_renamed : (file : Which) (ms : List MacroAt) (scope : Scope) (w : Written)
        → fault_within file (new_stages ρ stages) (new_macros ρ ms) (new_scope ρ scope) (renamed ρ w)
        ≡ fault_within file stages ms scope w
    fault_within_renamed file ms scope (not_ p) = fault_within_renamed file ms scope p
    fault_within_renamed file ms scope (and_ p q) =
        λ i. option_or (fault_within_renamed file ms scope p i) (fault_within_renamed file ms scope q i)
    fault_within_renamed file ms scope (or_ p q) =
        λ i. option_or (fault_within_renamed file ms scope p i) (fault_within_renamed file ms scope q i)
    fault_within_renamed file ms scope (implies_ p q) =
        λ i. option_or (fault_within_renamed file ms scope p i) (fault_within_renamed file ms scope q i)
    fault_within_renamed file ms scope (forall_ at sort name p) =
        let within =
        ap (λ (inside : Scope). fault_within file (new_stages ρ stages) (new_macros ρ ms) inside (renamed ρ p))
        (quantified_renamed ρ scope name sort)
        ∙ fault_within_renamed file ms (quantified_in scope name sort) p in
        λ i. option_or (filed file (quantified_fault ρ at scope name sort i)) (within i)
    fault_within_renamed file ms scope (exists_ at sort name p) =
        let within =
        ap (λ (inside : Scope). fault_within file (new_stages ρ stages) (new_macros ρ ms) inside (renamed ρ p))
        (quantified_renamed ρ scope name sort)
        ∙ fault_within_renamed file ms (quantified_in scope name sort) p in
        λ i. option_or (filed file (quantified_fault ρ at scope name sort i)) (within i)
    fault_within_renamed file ms scope (static_ pred args) = ap (filed file) (static_fault_kept scope pred args)
    fault_within_renamed file ms scope (nodes_ ts) = ap (filed file) (nodes_fault_kept stages scope ts)
    fault_within_renamed file ms scope (edges_ ts) = ap (filed file) (edges_fault_kept stages scope ts)
    fault_within_renamed file ms scope (bind_ at names args p) =
        let within =
        ap (λ (inside : Scope). fault_within Model (new_stages ρ stages) (new_macros ρ ms) inside (renamed ρ p))
        (bound_renamed ρ apart scope names args)
        ∙ fault_within_renamed Model ms (bound_in scope names args) p in
        λ i. option_or (filed file (binding_fault_kept scope at names args i)) (within i)
    fault_within_renamed file [] scope (expand_ at name args) = refl
    fault_within_renamed file (m ∷ ms) scope (expand_ at name args) =
        let within =
        ap (λ (inside : Scope). fault_within Model (new_stages ρ stages) (new_macros ρ ms) inside (renamed ρ m.body))
        (parameters_bound scope m args)
        ∙ fault_within_renamed Model ms (bound_in scope (parameter_names m) args) m.body in
        λ i. cond (apart m.name.name name.name i)
        (option_or (filed file (parameters_fault_kept scope at m args i)) (within i))
        (fault_within_renamed file ms scope (expand_ at name args) i)

    -- that of a formula which is asked of a model
    pub query_fault_renamed : (ms : List MacroAt) (scope : Scope) (w : Written)
        → query_fault (new_stages ρ stages) (new_macros ρ ms) (new_scope ρ scope) (renamed ρ w)
        ≡ query_fault stages ms scope w
    query_fault_renamed ms scope w = fault_within_renamed Query ms scope w

    -- and without its file
    name_fault_renamed : (ms : List MacroAt) (scope : Scope) (w : Written)
        → name_fault (new_stages ρ stages) (new_macros ρ ms) (new_scope ρ scope) (renamed ρ w)
        ≡ name_fault stages ms scope w
    name_fault_renamed ms scope w =
        sym (query_faults (new_stages ρ stages) (new_macros ρ ms) (new_scope ρ scope) (renamed ρ w))
        ∙ ap unfiled (query_fault_renamed ms scope w) ∙ query_faults stages ms scope w

  -- the first name fault of a model with other names
  pub first_fault_renamed : (m : WrittenModel) → first_name_fault (renamed_model ρ m) ≡ first_name_fault m
  first_fault_renamed m =
      let stages = new_stages ρ m.stages in
      let ms = new_macros ρ (macros_of m) in
      (λ i. first_fault (name_fault stages (macros_renamed ρ m i) []) (axioms_renamed ρ m i))
      ∙ faults_kept (renamed ρ) (name_fault stages ms []) (name_fault m.stages (macros_of m) [])
      (name_fault_renamed m.stages (macros_of m) []) (axioms_of m)

-- the laws
pub name_faults_kept : RenamingKeepsNameFaults
name_faults_kept ρ apart stages ms scope w = name_fault_renamed ρ apart stages ms scope w

pub first_faults_kept : RenamingKeepsFirstNameFaults
first_faults_kept ρ apart m = first_fault_renamed ρ apart m

pub query_faults_kept : RenamingKeepsQueryFaults
query_faults_kept ρ apart stages ms scope w = query_fault_renamed ρ apart stages ms scope w

-- what a denial with other names denies
pub asked_renamed : RenamingKeepsAsked
asked_renamed ρ (not_ p) = refl
asked_renamed ρ (and_ p q) = refl
asked_renamed ρ (or_ p q) = refl
asked_renamed ρ (implies_ p q) = refl
asked_renamed ρ (forall_ at sort name p) = refl
asked_renamed ρ (exists_ at sort name p) = refl
asked_renamed ρ (static_ pred args) = refl
asked_renamed ρ (nodes_ ts) = refl
asked_renamed ρ (edges_ ts) = refl
asked_renamed ρ (expand_ at name args) = refl
asked_renamed ρ (bind_ at names args p) = refl
