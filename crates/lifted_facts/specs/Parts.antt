-- What follows from a fact: its parts, two sides of which one holds, and that it holds in no world.
use Rattle.std.specs.Prelude.{ℕ, ◌+◌, Bool, true, false, not, List, [], ◌∷◌, ◌++◌, Option, Some, None, length, map, nat_lt, slice_get}
use Rattle.std.specs.Option.{option_map, option_and_then}
use Rattle.pc_common.specs.Case.{Case}
use Rattle.pc_syntax.specs.{declared.term.Sort.{Sort, TheVariants.{Microop, Core}}, Predicates.{predicate_holds}, Truth.{Meaning, range_of}}
use Rattle.pc_syntax.specs.Closed.{PlainClosed, closed_not, closed_and, closed_or, closed_implies, closed_forall, closed_exists, closed_static, closed_nodes, closed_edges, closed_bind, closed_value, closed_argument, closed_node}
use Rattle.lifted_facts.specs.declared.way.{Instance.{Instance, TheVariants.{Op as OpInstance, Core as CoreInstance}}, Way.{Way}}
use Rattle.lifted_facts.specs.{declared.way.Way.TheVariants.{Left, Right, Not, Bind, Inst, Member}, PlainFacts.{PlainFact, said, one_node, one_edge}}

-- the place of a value in the range of its sort: in test order, or its number as a core
abbrev pub number_of_instance : Sort → Instance → Option ℕ
number_of_instance Microop (OpInstance i) = Some i
number_of_instance Core (CoreInstance k) = Some k
number_of_instance _ _ = None

-- the value at this place of a range
abbrev pub value_at_place : Case → Sort → ℕ → Option Meaning
value_at_place c sort k = slice_get (range_of c sort) k

-- the body of a quantifier or of a binding, with these values in the next slots
abbrev pub said_inside : Bool → PlainClosed → List Meaning → List Meaning → PlainFact
said_inside plus p slots values = said plus p (slots ++ values) 0

-- a quantifier's body at a value of its range
abbrev pub said_at : Case → Bool → Sort → PlainClosed → List Meaning → Option ℕ → Option PlainFact
said_at c plus sort p slots place =
    option_map (λ v. said_inside plus p slots (v ∷ [])) (option_and_then (value_at_place c sort) place)

-- what a fact has as a part that holds with it
abbrev pub part_of : Case → Way → PlainFact → Option PlainFact
part_of c Left (said true (closed_and p q) slots s) = Some (said true p slots 0)
part_of c Left (said false (closed_or p q) slots s) = Some (said false p slots 0)
part_of c Left (said false (closed_implies p q) slots s) = Some (said true p slots 0)
part_of c Right (said true (closed_and p q) slots s) = Some (said true q slots 0)
part_of c Right (said false (closed_or p q) slots s) = Some (said false q slots 0)
part_of c Right (said false (closed_implies p q) slots s) = Some (said false q slots 0)
part_of c Not (said plus (closed_not p) slots s) = Some (said (not plus) p slots 0)
part_of c Bind (said plus (closed_bind args p) slots s) =
    Some (said_inside plus p slots (map (closed_value slots) args))
part_of c (Inst v) (said true (closed_forall sort p) slots s) = said_at c true sort p slots (number_of_instance sort v)
part_of c (Inst v) (said false (closed_exists sort p) slots s) = said_at c false sort p slots (number_of_instance sort v)
part_of c (Member k) (said true (closed_nodes ts) slots s) =
    option_map (λ t. one_node true (closed_node c slots t)) (slice_get ts k)
part_of c (Member k) (said true (closed_edges ts) slots s) =
    option_map (λ t. one_edge true (closed_node c slots t.from) (closed_node c slots t.to)) (slice_get ts k)
part_of _ _ _ = None

-- the fact at its first place, or the same fact from the next place on
abbrev pub or_later : Option PlainFact → PlainFact → Option (PlainFact × PlainFact)
or_later first later = option_map (λ f. (f, later)) first

-- the two sides of a fact: where it holds, one of them does
abbrev pub sides : Case → PlainFact → Option (PlainFact × PlainFact)
sides c (said true (closed_or p q) slots s) = Some (said true p slots 0, said true q slots 0)
sides c (said false (closed_and p q) slots s) = Some (said false p slots 0, said false q slots 0)
sides c (said true (closed_implies p q) slots s) = Some (said false p slots 0, said true q slots 0)
sides c (said true (closed_exists sort p) slots s) =
    or_later (said_at c true sort p slots (Some s)) (said true (closed_exists sort p) slots (s + 1))
sides c (said false (closed_forall sort p) slots s) =
    or_later (said_at c false sort p slots (Some s)) (said false (closed_forall sort p) slots (s + 1))
sides c (said false (closed_nodes ts) slots s) =
    or_later (option_map (λ t. one_node false (closed_node c slots t)) (slice_get ts s))
    (said false (closed_nodes ts) slots (s + 1))
sides c (said false (closed_edges ts) slots s) =
    or_later (option_map (λ t. one_edge false (closed_node c slots t.from) (closed_node c slots t.to)) (slice_get ts s))
    (said false (closed_edges ts) slots (s + 1))
sides _ _ = None

-- the fact holds in no world: no member of its range or list is left, or a predicate is against the sign
abbrev pub is_false : Case → PlainFact → Bool
is_false c (said true (closed_exists sort p) slots s) = not (nat_lt s (length (range_of c sort)))
is_false c (said false (closed_forall sort p) slots s) = not (nat_lt s (length (range_of c sort)))
is_false c (said false (closed_nodes ts) slots s) = not (nat_lt s (length ts))
is_false c (said false (closed_edges ts) slots s) = not (nat_lt s (length ts))
is_false c (said true (closed_static pred args) slots s) =
    not (predicate_holds c pred (map (closed_argument slots) args))
is_false c (said false (closed_static pred args) slots s) = predicate_holds c pred (map (closed_argument slots) args)
is_false _ _ = false
