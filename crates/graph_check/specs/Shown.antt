-- What a graph shows.
use Rattle.std.specs.Prelude.{List, IsTrue}
use Rattle.pc_common.specs.{Case.{Case}, World.{Node, World, IsWorld}, Generated.{IsGenerated}}
use Rattle.pc_syntax.specs.Closed.{PlainClosed, closed_satisfies}
use Rattle.pc_ground.specs.{Stages.{plain_axioms}, declared.front.Front.{Front}}
use Rattle.graph_text.specs.{Graphs.{graph_nodes, graph_edges}, declared.graph.Graph.{Graph}}

-- the pair that the graph generates is a world in which each of these closed axioms is true
pub record IsShownOf (c : Case) (axioms : List PlainClosed) (g : Graph) : Type 0 where
  pub world : World Node
  pub generated : IsGenerated (graph_nodes g) (graph_edges g) world
  pub is_world : IsWorld world
  pub satisfied : IsTrue (closed_satisfies axioms c world)

abbrev pub IsShown : Front → Graph → Type 0
IsShown front g = IsShownOf front.case (plain_axioms front.axioms) g
