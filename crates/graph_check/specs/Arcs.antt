-- Edges between numbered nodes, and walks over those that start at one node.
use Rattle.std.specs.Prelude.{ℕ, suc, ◌≡◌, ◌≤◌, ◌<◌, List, length, Some, slice_get, slice_index}
use Rattle.graph_check.specs.declared.adjacency.Arc.{Arc}

pub record Arcs : Type 0 where
  -- of each node the last edge from it, counted from 1, or 0
  pub heads : List ℕ
  pub arcs : List Arc

-- an edge leads from a to b
abbrev pub Joins : Arcs → ℕ → ℕ → Type 0
Joins v a b = (e : ℕ) × (x : Arc) × (slice_get v.arcs e ≡ Some x) × (x.from ≡ a) × (x.to ≡ b)

-- the walk from `at`, back from edge to edge, comes to edge k
pub data IsOn (arcs : List Arc) : ℕ → ℕ → Type 0 where
  here : (k : ℕ) → IsOn arcs (suc k) k
  earlier : (e k : ℕ) (x : Arc) → slice_get arcs e ≡ Some x → IsOn arcs x.before k → IsOn arcs (suc e) k

-- the walk from `at` comes to edges from a alone
pub record IsWalk (v : Arcs) (a at : ℕ) : Type 0 where
  pub low : at ≤ length v.arcs
  pub only : (e : ℕ) (x : Arc) → IsOn v.arcs at e → slice_get v.arcs e ≡ Some x → x.from ≡ a

-- the walk from `at` comes to an edge to b
abbrev pub ComesTo : Arcs → ℕ → ℕ → Type 0
ComesTo v at b = (e : ℕ) × (x : Arc) × IsOn v.arcs at e × (slice_get v.arcs e ≡ Some x) × (x.to ≡ b)

-- from each node's head a walk comes to all edges from it, and to no others
pub record AreLinked (v : Arcs) : Type 0 where
  pub low : (a : ℕ) → slice_index v.heads a ≤ length v.arcs
  pub falling : (e : ℕ) (x : Arc) → slice_get v.arcs e ≡ Some x → x.before ≤ e
  pub within : (e : ℕ) (x : Arc) → slice_get v.arcs e ≡ Some x → (x.from < length v.heads) × (x.to < length v.heads)
  pub listed : (e : ℕ) (x : Arc) → slice_get v.arcs e ≡ Some x → IsOn v.arcs (slice_index v.heads x.from) e
  pub only : (a e : ℕ) (x : Arc) → IsOn v.arcs (slice_index v.heads a) e → slice_get v.arcs e ≡ Some x → x.from ≡ a
