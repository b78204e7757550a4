-- A formula with other names is closed to what it was closed to.
use Rattle.std.proofs.Common.{◌≡◌, List, [], ◌∷◌, Option, Some, None, map, option_map, unwrap_or, refl, ap, ◌∙◌, ℕ}
use Rattle.pc_syntax.specs.declared.term.{Arg.{Arg, TheVariants.{Word as word_arg, Number as number_arg}}, NodeTerm.{NodeTerm}, EdgeTerm.{EdgeTerm}}
use Rattle.pc_syntax.specs.declared.{model.StageItem.{StageItem}, pred.{Pred.{Pred, TheVariants.{True}}, Takes.{Takes}}}
use Rattle.pc_syntax.specs.declared.pred.Takes.TheVariants.{Op as takes_op, Core as takes_core, Plain as takes_plain}
use Rattle.pc_syntax.specs.{declared.closed_term.ClosedArg.TheVariants.{Slot}, Predicates.{pred_with_name, takes_of}}
use Rattle.pc_syntax.specs.Written.{Written, not_, and_, or_, implies_, forall_, exists_, static_, nodes_, edges_, expand_, bind_}
use Rattle.pc_syntax.specs.Closed.{closed_not, closed_and, closed_or, closed_implies, closed_forall, closed_exists, closed_static, closed_nodes, closed_edges, closed_bind}
use Rattle.pc_syntax.specs.Scope.{Scope, quantified_in, bound_in}
use Rattle.pc_syntax.specs.Closing.{closing_of_value, closing_of_bound, closing_of_arg, closing_of_args, closing_of_node, closing_of_edge, closing_of_static, closing_of}
use Rattle.pc_syntax.specs.Renaming.{Renaming, KeepsApart, renamed_arg, renamed_taken, renamed_args, renamed_node, renamed_edge, renamed}
use Rattle.scope_check.specs.Laws.{RenamingKeepsClosings}
use Rattle.scope_check.proofs.RenamedScopes.{new_scope, new_args, new_stages, slot_renamed, stage_number_renamed, quantified_renamed, bound_renamed}

module _ (ρ : Renaming) (apart : KeepsApart ρ) where
  -- an argument that has a value
  value_closed : (scope : Scope) (a : Arg)
      → closing_of_value (new_scope ρ scope) (renamed_arg ρ a) ≡ closing_of_value scope a
  value_closed scope (word_arg w) = ap Slot (slot_renamed ρ apart scope w)
  value_closed scope (number_arg n at) = refl

  -- an argument of a predicate, which is changed where it is a variable
  arg_closed : (scope : Scope) (t : Takes) (a : Arg)
      → closing_of_arg (new_scope ρ scope) t (renamed_taken ρ t a) ≡ closing_of_arg scope t a
  arg_closed scope takes_op a = value_closed scope a
  arg_closed scope takes_core a = value_closed scope a
  arg_closed scope takes_plain (word_arg w) = refl
  arg_closed scope takes_plain (number_arg n at) = refl

  -- the arguments of a predicate
  args_closed : (scope : Scope) (ts : List Takes) (args : List Arg)
      → closing_of_args (new_scope ρ scope) ts (renamed_args ρ ts args) ≡ closing_of_args scope ts args
  args_closed scope [] args = refl
  args_closed scope (t ∷ ts) [] = refl
  args_closed scope (t ∷ ts) (a ∷ as_) = λ i. arg_closed scope t a i ∷ args_closed scope ts as_ i

  -- a predicate of the table, or none
  static_closed : (scope : Scope) (args : List Arg) (o : Option Pred)
      → closing_of_static (new_scope ρ scope) (unwrap_or o True)
      (elim o [ None ↦ args | Some p ↦ renamed_args ρ (takes_of p) args ])
      ≡ closing_of_static scope (unwrap_or o True) args
  static_closed scope args None = refl
  static_closed scope args (Some p) = ap (closed_static p) (args_closed scope (takes_of p) args)

  -- the arguments that names are bound to
  bound_closed : (scope : Scope) (names : List (List ℕ)) (args : List Arg)
      → closing_of_bound (new_scope ρ scope) (map ρ names) (new_args ρ args) ≡ closing_of_bound scope names args
  bound_closed scope [] args = refl
  bound_closed scope (n ∷ ns) [] = refl
  bound_closed scope (n ∷ ns) (a ∷ as_) = λ i. value_closed scope a i ∷ bound_closed scope ns as_ i

  -- the core of a location
  core_closed : (scope : Scope) (core : Option Arg)
      → option_map (closing_of_value (new_scope ρ scope)) (option_map (renamed_arg ρ) core)
      ≡ option_map (closing_of_value scope) core
  core_closed scope None = refl
  core_closed scope (Some a) = ap Some (value_closed scope a)

  module _ (stages : List StageItem) where
    -- a node, and nodes and edges
    node_closed : (scope : Scope) (t : NodeTerm)
        → closing_of_node (new_stages ρ stages) (new_scope ρ scope) (renamed_node ρ t)
        ≡ closing_of_node stages scope t
    node_closed scope t =
        λ i. record {
          op = slot_renamed ρ apart scope t.op i;
          core = core_closed scope t.core i;
          stage = unwrap_or (stage_number_renamed ρ apart stages t.stage.name i) 0;
        }

    nodes_closed : (scope : Scope) (ts : List NodeTerm)
        → map (closing_of_node (new_stages ρ stages) (new_scope ρ scope)) (map (renamed_node ρ) ts)
        ≡ map (closing_of_node stages scope) ts
    nodes_closed scope [] = refl
    nodes_closed scope (t ∷ ts) = λ i. node_closed scope t i ∷ nodes_closed scope ts i

    edges_closed : (scope : Scope) (ts : List EdgeTerm)
        → map (closing_of_edge (new_stages ρ stages) (new_scope ρ scope)) (map (renamed_edge ρ) ts)
        ≡ map (closing_of_edge stages scope) ts
    edges_closed scope [] = refl
    edges_closed scope (t ∷ ts) =
        λ i. record { from = node_closed scope t.from i; to = node_closed scope t.to i } ∷ edges_closed scope ts i

    -- a formula
    pub closing_renamed : (scope : Scope) (w : Written)
        → closing_of (new_stages ρ stages) (new_scope ρ scope) (renamed ρ w) ≡ closing_of stages scope w
    closing_renamed scope (not_ p) = ap closed_not (closing_renamed scope p)
    closing_renamed scope (and_ p q) = λ i. closed_and (closing_renamed scope p i) (closing_renamed scope q i)
    closing_renamed scope (or_ p q) = λ i. closed_or (closing_renamed scope p i) (closing_renamed scope q i)
    closing_renamed scope (implies_ p q) = λ i. closed_implies (closing_renamed scope p i) (closing_renamed scope q i)
    closing_renamed scope (forall_ at sort name p) =
        ap (λ (inside : Scope). closed_forall sort (closing_of (new_stages ρ stages) inside (renamed ρ p)))
        (quantified_renamed ρ scope name sort)
        ∙ ap (closed_forall sort) (closing_renamed (quantified_in scope name sort) p)
    closing_renamed scope (exists_ at sort name p) =
        ap (λ (inside : Scope). closed_exists sort (closing_of (new_stages ρ stages) inside (renamed ρ p)))
        (quantified_renamed ρ scope name sort)
        ∙ ap (closed_exists sort) (closing_renamed (quantified_in scope name sort) p)
    closing_renamed scope (static_ pred args) = static_closed scope args (pred_with_name pred.name)
    closing_renamed scope (nodes_ ts) = ap closed_nodes (nodes_closed scope ts)
    closing_renamed scope (edges_ ts) = ap closed_edges (edges_closed scope ts)
    closing_renamed scope (expand_ at name args) = refl
    closing_renamed scope (bind_ at names args p) =
        ap
        (λ (inside : Scope). closed_bind
        (closing_of_bound (new_scope ρ scope) (map ρ names) (new_args ρ args))
        (closing_of (new_stages ρ stages) inside (renamed ρ p)))
        (bound_renamed ρ apart scope names args)
        ∙ (λ i. closed_bind (bound_closed scope names args i) (closing_renamed (bound_in scope names args) p i))

-- the law
pub closings_kept : RenamingKeepsClosings
closings_kept ρ apart stages scope w = closing_renamed ρ apart stages scope w
