-- The parts of a fact that hold with it, in the order of the ground tree.
use Rattle.std.specs.Prelude.{ℕ, true, false, not, List, [], ◌∷◌, map, drop}
use Rattle.pc_common.specs.{Case.{Case}, World.{Node}}
use Rattle.pc_syntax.specs.Truth.{range_of}
use Rattle.pc_syntax.specs.Closed.{closed_not, closed_and, closed_or, closed_implies, closed_forall, closed_exists, closed_nodes, closed_edges, closed_bind, closed_value, closed_node}
use Rattle.pc_ground.specs.Tree.{Tree}
use Rattle.lifted_facts.specs.{PlainFacts.{PlainFact, said, one_node, one_edge}, Parts.{said_inside}}
use Rattle.lifter.specs.Trees.{fact_tree, joined_trees}

abbrev pub parts : Case → PlainFact → List PlainFact
parts c (said true (closed_and p q) slots s) = said true p slots 0 ∷ said true q slots 0 ∷ []
parts c (said false (closed_or p q) slots s) = said false p slots 0 ∷ said false q slots 0 ∷ []
parts c (said false (closed_implies p q) slots s) = said true p slots 0 ∷ said false q slots 0 ∷ []
parts c (said plus (closed_not p) slots s) = said (not plus) p slots 0 ∷ []
parts c (said plus (closed_bind args p) slots s) = said_inside plus p slots (map (closed_value slots) args) ∷ []
parts c (said true (closed_forall sort p) slots s) = map (λ v. said_inside true p slots (v ∷ [])) (range_of c sort)
parts c (said false (closed_exists sort p) slots s) = map (λ v. said_inside false p slots (v ∷ [])) (range_of c sort)
parts c (said true (closed_nodes ts) slots s) = map (λ t. one_node true (closed_node c slots t)) ts
parts c (said true (closed_edges ts) slots s) = map (λ t. one_edge true (closed_node c slots t.from) (closed_node c slots t.to)) ts
parts _ _ = []

-- a part of an axiom, and no single node or edge
abbrev pub IsSaid : PlainFact → Type 0
IsSaid (said plus p slots s) = Unit {0}
IsSaid (one_node plus a) = ⊥
IsSaid (one_edge plus a b) = ⊥

-- And over facts from a place on
abbrev pub facts_from : Case → List PlainFact → ℕ → Tree Node
facts_from c fs k = joined_trees true (map (fact_tree c) (drop k fs))

-- and over the parts of a fact
abbrev pub parts_from : Case → PlainFact → ℕ → Tree Node
parts_from c f k = facts_from c (parts c f) k
