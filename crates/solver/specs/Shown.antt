-- The graph that a list of literals over numbers shows.
use Rattle.std.specs.Prelude.{ℕ, ◌≡◌, ◌↔◌, ◌<◌, ◌⊎◌, List, [], ◌∷◌, ◌++◌, Contains}
use Rattle.pc_common.specs.World.{Node, Edge}
use Rattle.pc_ground.specs.{declared.literal.Literal.{Literal}, Literals.{Joins, IsPresent}}
use Rattle.solver.specs.Renamed.{node_at}

-- the nodes are those of the present numbers below n
abbrev pub ArePresent : List Node → List (Literal ℕ) → ℕ → List Node → Type 0
ArePresent nodes ls n shown = (a : Node) → Contains shown a ↔ ((k : ℕ) × (k < n) × IsPresent ls k × (node_at nodes k ≡ a))

-- the edges are those that the literals assert
abbrev pub AreEdges : List Node → List (Literal ℕ) → List Edge → Type 0
AreEdges nodes ls shown = (a b : Node) → Contains shown (a, b) ↔ ((j : ℕ) × (k : ℕ) × Joins ls j k × (node_at nodes j ≡ a) × (node_at nodes k ≡ b))

-- the node of number k is put last where it is present
abbrev pub IsPresentNoted : List Node → List (Literal ℕ) → ℕ → List Node → List Node → Type 0
IsPresentNoted nodes ls k old new = (IsPresent ls k × (new ≡ old ++ node_at nodes k ∷ [])) ⊎ ((IsPresent ls k → ⊥) × (new ≡ old))

abbrev pub edge_over : List Node → ℕ × ℕ → Edge
edge_over nodes p = (node_at nodes p.0, node_at nodes p.1)
