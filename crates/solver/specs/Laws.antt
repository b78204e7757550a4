-- The world that literals over nodes generate, and what holds of it where they are consistent.
use Rattle.std.specs.{Prelude.{List, [], ◌∷◌, Contains, IsTrue}, List.{flat_map}}
use Rattle.pc_common.specs.{World.{Node, Edge, World, IsWorld}, Generated.{IsGenerated}}
use Rattle.pc_ground.specs.{declared.literal.Literal.{Literal, TheVariants.{Node as a_node, Edge as an_edge, NoNode, NoEdge}}, Tree.{literal_true}}
use Rattle.pc_ground.specs.Literals.{IsConsistent}

-- the nodes that a literal asserts
abbrev pub literal_nodes : Literal Node → List Node
literal_nodes (a_node a) = a ∷ []
literal_nodes (an_edge a b) = a ∷ b ∷ []
literal_nodes (NoNode a) = []
literal_nodes (NoEdge a b) = []

abbrev pub literal_edges : Literal Node → List Edge
literal_edges (a_node a) = []
literal_edges (an_edge a b) = (a, b) ∷ []
literal_edges (NoNode a) = []
literal_edges (NoEdge a b) = []

-- the asserted nodes and edges of consistent literals generate a world, and each of the literals is true in it
abbrev pub ConsistentHaveWorld : Type 0
ConsistentHaveWorld = (ls : List (Literal Node)) → IsConsistent ls
    → (w : World Node) × IsGenerated (flat_map literal_nodes ls) (flat_map literal_edges ls) w × IsWorld w
    × ((l : Literal Node) → Contains ls l → IsTrue (literal_true w l))
