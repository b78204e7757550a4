-- Facts: what is said of a world by parts of closed axioms.
use Rattle.std.specs.Prelude.{ℕ, Bool, true, List, [], Option, Some, map}
use Rattle.pc_common.specs.{Case.{Case}, World.{Node}}
use Rattle.pc_syntax.specs.{Truth.{Meaning}, Closed.{PlainClosed, plain_closed}, IsClosed.{IsClosed}}
use Rattle.pc_ground.specs.Keys.{key_node}
use Rattle.static_preds.specs.{Slots.{AreInRange}, Values.{meanings, scope_of}}
use Rattle.lifted_facts.specs.declared.fact.{Said.{Said as SaidFact}, Fact.{Fact, TheVariants.{Said, Node as NodeFact, Edge as EdgeFact}}}

-- the sign true says that what follows holds, and false that it does not
pub data PlainFact : Type 0 where
  -- a part of an axiom, with the values of its slots, and the place in its range or list from which on it is meant
  said : Bool → PlainClosed → List Meaning → ℕ → PlainFact
  -- one node; and one edge. Where a term names none, nothing is there
  one_node : Bool → Option Node → PlainFact
  one_edge : Bool → Option Node → Option Node → PlainFact

-- a branch is the list of its facts, which are numbered from 0
abbrev pub Branch : Type 0
Branch = List PlainFact

-- the first facts: each axiom is said to hold
abbrev pub root : List PlainClosed → Branch
root axioms = map (λ p. said true p [] 0) axioms

-- a fact of the code, without addresses and with its keys as plain nodes
abbrev pub plain_part : SaidFact → PlainFact
plain_part s = said s.plus (plain_closed s.formula.now) (meanings s.env.items) s.start

abbrev pub plain_fact : Fact → PlainFact
plain_fact (Said s) = plain_part s
plain_fact (NodeFact plus a) = one_node plus (Some (key_node a))
plain_fact (EdgeFact plus a b) = one_edge plus (Some (key_node a)) (Some (key_node b))

abbrev pub plain_pair : Fact × Fact → PlainFact × PlainFact
plain_pair both = (plain_fact both.0, plain_fact both.1)

-- the formula is closed in the scope of its slots, and they stand for micro-ops and cores of the case
abbrev pub IsProperPart : Case → SaidFact → Type 0
IsProperPart c s = IsClosed (scope_of s.env.items) (plain_closed s.formula.now) × AreInRange c s.env.items

abbrev pub IsProper : Case → Fact → Type 0
IsProper c (Said s) = IsProperPart c s
IsProper c (NodeFact plus a) = Unit {0}
IsProper c (EdgeFact plus a b) = Unit {0}
