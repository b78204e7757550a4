-- What closing makes of an expanded formula: each variable is the slot of its first binding, each
-- stage name its number, each predicate its row.
use Rattle.std.specs.Prelude.{◌≡◌, ℕ, List, [], ◌∷◌, Some, None, map, unwrap_or, option_map}
use Rattle.pc_syntax.specs.declared.term.{Word.{Word}, Arg.{Arg, TheVariants.{Word as word_arg, Number as number_arg}}, NodeTerm.{NodeTerm}}
use Rattle.pc_syntax.specs.declared.{term.EdgeTerm.{EdgeTerm}, model.StageItem.{StageItem}, pred.{Pred.{Pred, TheVariants.{True, False}}, Takes.{Takes}}}
use Rattle.pc_syntax.specs.declared.{pred.Takes.TheVariants.{Op as takes_op, Core as takes_core, Plain as takes_plain}, closed_term.ClosedArg.{ClosedArg}}
use Rattle.pc_syntax.specs.declared.closed_term.{ClosedArg.TheVariants.{Slot, Core, Plain}, ClosedNode.{ClosedNode}, ClosedEdge.{ClosedEdge}}
use Rattle.pc_syntax.specs.Predicates.{pred_with_name, takes_of}
use Rattle.pc_syntax.specs.{Written.{Written, not_, and_, or_, implies_, forall_, exists_, static_, nodes_, edges_, expand_, bind_}, Stages.{stage_number_of}}
use Rattle.pc_syntax.specs.Closed.{PlainClosed, closed_not, closed_and, closed_or, closed_implies, closed_forall, closed_exists, closed_static, closed_nodes, closed_edges, closed_bind}
use Rattle.pc_syntax.specs.{Scope.{Scope, binding_of, quantified_in, bound_in}, NameFaults.{name_fault}}

-- What follows is total: it takes 0 for the slot of a name without binding and for the number of a
-- stage that isn't there, and `True` for a predicate that isn't there. A formula without name faults
-- has none of these.

abbrev pub slot_of : Scope → Word → ℕ
slot_of scope w = elim (binding_of scope w.name) [ None ↦ 0 | Some b ↦ b.slot ]

-- an argument that has a value
abbrev pub closing_of_value : Scope → Arg → ClosedArg
closing_of_value scope (word_arg w) = Slot (slot_of scope w)
closing_of_value scope (number_arg n at) = Core n

-- the arguments that names are bound to
abbrev pub closing_of_bound : Scope → List (List ℕ) → List Arg → List ClosedArg
closing_of_bound scope (n ∷ ns) (a ∷ as_) = closing_of_value scope a ∷ closing_of_bound scope ns as_
closing_of_bound scope _ _ = []

-- an argument where this is taken
abbrev pub closing_of_arg : Scope → Takes → Arg → ClosedArg
closing_of_arg scope takes_plain (word_arg w) = Plain w.name
closing_of_arg scope takes_plain (number_arg n at) = Core n
closing_of_arg scope takes_op a = closing_of_value scope a
closing_of_arg scope takes_core a = closing_of_value scope a

abbrev pub closing_of_args : Scope → List Takes → List Arg → List ClosedArg
closing_of_args scope (t ∷ ts) (a ∷ as_) = closing_of_arg scope t a ∷ closing_of_args scope ts as_
closing_of_args scope _ _ = []

abbrev pub closing_of_node : List StageItem → Scope → NodeTerm → ClosedNode
closing_of_node stages scope t =
    record {
      op = slot_of scope t.op;
      core = option_map (closing_of_value scope) t.core;
      stage = unwrap_or (stage_number_of stages t.stage.name) 0;
    }

abbrev pub closing_of_edge : List StageItem → Scope → EdgeTerm → ClosedEdge
closing_of_edge stages scope t =
    record { from = closing_of_node stages scope t.from; to = closing_of_node stages scope t.to }

abbrev pub closing_of_static : Scope → Pred → List Arg → PlainClosed
closing_of_static scope pred args = closed_static pred (closing_of_args scope (takes_of pred) args)

-- an expansion, which no expanded formula has, is taken as False
abbrev pub closing_of : List StageItem → Scope → Written → PlainClosed
closing_of stages scope (not_ p) = closed_not (closing_of stages scope p)
closing_of stages scope (and_ p q) = closed_and (closing_of stages scope p) (closing_of stages scope q)
closing_of stages scope (or_ p q) = closed_or (closing_of stages scope p) (closing_of stages scope q)
closing_of stages scope (implies_ p q) = closed_implies (closing_of stages scope p) (closing_of stages scope q)
closing_of stages scope (forall_ at sort name p) =
    closed_forall sort (closing_of stages (quantified_in scope name sort) p)
closing_of stages scope (exists_ at sort name p) =
    closed_exists sort (closing_of stages (quantified_in scope name sort) p)
closing_of stages scope (static_ pred args) = closing_of_static scope (unwrap_or (pred_with_name pred.name) True) args
closing_of stages scope (nodes_ ts) = closed_nodes (map (closing_of_node stages scope) ts)
closing_of stages scope (edges_ ts) = closed_edges (map (closing_of_edge stages scope) ts)
closing_of stages scope (expand_ at name args) = closed_static False []
closing_of stages scope (bind_ at names args p) =
    closed_bind (closing_of_bound scope names args) (closing_of stages (bound_in scope names args) p)

-- c is what closing makes of the expanded formula e, which has no name fault in the scope
pub record IsClosingOf (stages : List StageItem) (scope : Scope) (e : Written) (c : PlainClosed) : Type 0 where
  pub no_fault : name_fault stages [] scope e ≡ None
  pub closing : c ≡ closing_of stages scope e
