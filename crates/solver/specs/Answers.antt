-- What an answer says of a tree.
use Rattle.std.specs.Prelude.{List, Contains, IsTrue}
use Rattle.pc_common.specs.{World.{Node, World, IsWorld}, Generated.{HasEnds, IsGenerated}}
use Rattle.pc_ground.specs.{Tree.{Tree, tree_true}, declared.version.Version.{Version}, Refutes.{IsRefutation}}
use Rattle.graph_text.specs.{Graphs.{graph_nodes, graph_edges}, declared.graph.Graph.{Graph}}
use Rattle.solver.specs.declared.search.answer.Answer.{Answer, TheVariants.{Observable, Unobservable}}

-- the graph is of these nodes, and the tree is true in the world that it generates
pub record IsWitness (nodes : List Node) (t : Tree Node) (g : Graph) : Type 0 where
  pub known : (a : Node) → Contains (graph_nodes g) a → Contains nodes a
  pub ends : HasEnds (graph_nodes g) (graph_edges g)
  pub world : World Node
  pub generated : IsGenerated (graph_nodes g) (graph_edges g) world
  pub is_world : IsWorld world
  pub satisfied : IsTrue (tree_true world t)

-- the tree is true in no world
abbrev pub IsUnsatisfied : Tree Node → Type 0
IsUnsatisfied t = (w : World Node) → IsWorld w → IsTrue (tree_true w t) → ⊥

abbrev pub IsAnswer : Version → List Node → Tree Node → Answer → Type 0
IsAnswer v nodes t (Observable g) = IsWitness nodes t g
IsAnswer v nodes t (Unobservable r) = IsRefutation v t r × IsUnsatisfied t
