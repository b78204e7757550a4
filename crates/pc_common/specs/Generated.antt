-- The world that a graph generates: its nodes, with all pairs that a chain of its edges joins.
use Rattle.std.specs.Prelude.{◌≡◌, ◌↔◌, List, Contains}
use Rattle.pc_common.specs.{World.{World}, Chain.{Chain}}

-- the edge from a to b is listed
abbrev pub IsListed : {N : Type 0} → List (N × N) → N → N → Type 0
IsListed edges a b = Contains edges (a, b)

-- each edge joins two of the nodes
abbrev pub HasEnds : {N : Type 0} → List N → List (N × N) → Type 0
HasEnds {N} nodes edges = (a b : N) → IsListed edges a b → Contains nodes a × Contains nodes b

pub record IsGenerated {N : Type 0} (nodes : List N) (edges : List (N × N)) (w : World N) : Type 0 where
  pub nodes_are : w.nodes ≡ nodes
  pub order_is : (a b : N) → Contains w.order (a, b) ↔ Chain (IsListed edges) a b
