-- The order that a graph's edges generate, over its numbered nodes.
use Rattle.std.specs.Prelude.{◌≡◌, ◌↔◌, ℕ, List, Contains, length}
use Rattle.pc_common.specs.{World.{Node, Edge}, Chain.{Acyclic}, Generated.{IsListed, HasEnds}}
use Rattle.pc_ground.specs.Numbers.{IsNumberOf, AreDistinct}
use Rattle.graph_text.specs.OpenGraphs.{PlainGraph}
use Rattle.graph_check.specs.{Arcs.{Arcs, Joins, AreLinked}, Searches.{IsTopological}, Columns.{AreColumns}, declared.columns.Columns.{Columns}}

-- one of the two has no number
abbrev pub AreNotNumbered : List Node → Node → Node → Type 0
AreNotNumbered nodes a b = (i j : ℕ) → IsNumberOf nodes i a → IsNumberOf nodes j b → ⊥

-- the edges join the nodes and have no cycle
pub record IsOrdered (nodes : List Node) (edges : List Edge) : Type 0 where
  pub ends : HasEnds nodes edges
  pub acyclic : Acyclic (IsListed edges)

-- the edges join the numbered nodes, and these are they by number
pub record AreArcsOf (nodes : List Node) (edges : List Edge) (v : Arcs) : Type 0 where
  pub distinct : AreDistinct nodes
  pub linked : AreLinked v
  pub sized : length v.heads ≡ length nodes
  pub ends : HasEnds nodes edges
  pub joins : (i j : ℕ) (a b : Node) → IsNumberOf nodes i a → IsNumberOf nodes j b → Joins v i j ↔ IsListed edges a b

-- these are the nodes, the edges and a topological order of the graph
pub record IsOrderOf (g : PlainGraph) (nodes : List Node) (v : Arcs) (order : List ℕ) (c : Columns) : Type 0 where
  pub same_nodes : (a : Node) → Contains nodes a ↔ Contains g.nodes a
  pub arcs : AreArcsOf nodes g.edges v
  pub order_is : IsTopological v order
  pub columns : AreColumns v c
