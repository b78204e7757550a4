-- A closed formula without addresses in memory, and its truth in a case, a world and the values of its
-- slots, which are listed from the outermost binding.
use Rattle.std.specs.{Prelude.{ℕ, Bool, not, List, [], ◌∷◌, ◌++◌, Option, Some, None, map, slice_get, unwrap_or, ◌&&◌, ◌||◌}, List.{list_any, list_all}}
use Rattle.pc_common.specs.{Case.{MicroOp, Case}, World.{Node, World}}
use Rattle.pc_syntax.specs.declared.{term.Sort.{Sort}, pred.Pred.{Pred}, bound.Bound.{Bound, TheVariants.{Op as bound_op, Core as bound_core}}}
use Rattle.pc_syntax.specs.declared.closed_term.{ClosedArg.{ClosedArg, TheVariants.{Slot, Core, Plain}}, ClosedNode.{ClosedNode}, ClosedEdge.{ClosedEdge}}
use Rattle.pc_syntax.specs.declared.closed_formula.ClosedFormula.{ClosedFormula}
use Rattle.pc_syntax.specs.declared.closed_formula.ClosedFormula.TheVariants.{Not', And', Or', Implies', Forall', Exists', Static, Nodes, Edges, Bind'}
use Rattle.pc_syntax.specs.{Arguments.{Argument, op_at, core_at, plain_name}, Predicates.{predicate_holds}}
use Rattle.pc_syntax.specs.Truth.{Meaning, an_op, a_core, op_of, core_of, node_at, node_holds, edge_holds, range_of}

pub data PlainClosed : Type 0 where
  closed_not : PlainClosed → PlainClosed
  closed_and : PlainClosed → PlainClosed → PlainClosed
  closed_or : PlainClosed → PlainClosed → PlainClosed
  closed_implies : PlainClosed → PlainClosed → PlainClosed
  closed_forall : Sort → PlainClosed → PlainClosed
  closed_exists : Sort → PlainClosed → PlainClosed
  closed_static : Pred → List ClosedArg → PlainClosed
  closed_nodes : List ClosedNode → PlainClosed
  closed_edges : List ClosedEdge → PlainClosed
  closed_bind : List ClosedArg → PlainClosed → PlainClosed

abbrev pub plain_closed : ClosedFormula → PlainClosed
plain_closed (Not' p a) = closed_not (plain_closed a)
plain_closed (And' p a q b) = closed_and (plain_closed a) (plain_closed b)
plain_closed (Or' p a q b) = closed_or (plain_closed a) (plain_closed b)
plain_closed (Implies' p a q b) = closed_implies (plain_closed a) (plain_closed b)
plain_closed (Forall' sort p body) = closed_forall sort (plain_closed body)
plain_closed (Exists' sort p body) = closed_exists sort (plain_closed body)
plain_closed (Static pred args) = closed_static pred args
plain_closed (Nodes nodes) = closed_nodes nodes
plain_closed (Edges edges) = closed_edges edges
plain_closed (Bind' args p body) = closed_bind args (plain_closed body)

-- what a bound slot stands for
abbrev pub meaning_of : Bound → Meaning
meaning_of (bound_op i) = an_op i
meaning_of (bound_core k) = a_core k

-- the value of a slot; one that isn't there, of which no closed formula speaks, is taken as core 0
abbrev pub value_at : List Meaning → ℕ → Meaning
value_at slots k = unwrap_or (slice_get slots k) (a_core 0)

-- the value of an argument; a plain name, which has none, is taken as core 0
abbrev pub closed_value : List Meaning → ClosedArg → Meaning
closed_value slots (Slot k) = value_at slots k
closed_value slots (Core k) = a_core k
closed_value slots (Plain name) = a_core 0

abbrev pub argument_at : Meaning → Argument
argument_at (an_op i) = op_at i
argument_at (a_core k) = core_at k

-- an argument as predicates take it
abbrev pub closed_argument : List Meaning → ClosedArg → Argument
closed_argument slots (Slot k) = argument_at (value_at slots k)
closed_argument slots (Core k) = core_at k
closed_argument slots (Plain name) = plain_name name

-- the core that a node names: the micro-op's own where it names none
abbrev pub closed_core : List Meaning → MicroOp → Option ClosedArg → Option ℕ
closed_core slots o None = Some o.core
closed_core slots o (Some a) = core_of (Some (closed_value slots a))

abbrev pub core_at_op : Case → List Meaning → Option ℕ → Option ClosedArg → Option ℕ
core_at_op c slots None core = None
core_at_op c slots (Some i) core = elim (slice_get c.ops i) [ None ↦ None | Some o ↦ closed_core slots o core ]

-- the node that a term names, if its slot is a micro-op of the test
abbrev pub closed_node : Case → List Meaning → ClosedNode → Option Node
closed_node c slots t =
    let op = op_of (Some (value_at slots t.op)) in
    node_at op (core_at_op c slots op t.core) (Some t.stage)

-- a variable takes the next slot, and the arguments of a binding take the next ones in their order
abbrev pub closed_true : Case → World Node → List Meaning → PlainClosed → Bool
closed_true c w slots (closed_not p) = not (closed_true c w slots p)
closed_true c w slots (closed_and p q) = closed_true c w slots p && closed_true c w slots q
closed_true c w slots (closed_or p q) = closed_true c w slots p || closed_true c w slots q
closed_true c w slots (closed_implies p q) = not (closed_true c w slots p) || closed_true c w slots q
closed_true c w slots (closed_forall sort p) = list_all (λ v. closed_true c w (slots ++ v ∷ []) p) (range_of c sort)
closed_true c w slots (closed_exists sort p) = list_any (λ v. closed_true c w (slots ++ v ∷ []) p) (range_of c sort)
closed_true c w slots (closed_static pred args) = predicate_holds c pred (map (closed_argument slots) args)
closed_true c w slots (closed_nodes ts) = list_all (λ t. node_holds w (closed_node c slots t)) ts
closed_true c w slots (closed_edges ts) =
    list_all (λ t. edge_holds w (closed_node c slots t.from) (closed_node c slots t.to)) ts
closed_true c w slots (closed_bind args p) = closed_true c w (slots ++ map (closed_value slots) args) p

-- each axiom is true in the world, with no slots
abbrev pub closed_satisfies : List PlainClosed → Case → World Node → Bool
closed_satisfies axioms c w = list_all (closed_true c w []) axioms
