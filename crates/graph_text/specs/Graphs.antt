-- A graph over plain nodes, and its lines.
use Rattle.std.specs.Prelude.{ℕ, List, ◌++◌, map}
use Rattle.pc_common.specs.{World.{Node, Edge}, Lines.{Names, Line, node as node_line, edge as edge_line, line_text, lines_text}}
use Rattle.pc_ground.specs.{Keys.{key_node}, NodeForm.{IsNodeIn}, declared.node_key.NodeKey.{NodeKey}}
use Rattle.graph_text.specs.declared.graph.Graph.{Graph}

abbrev pub key_edge : NodeKey × NodeKey → Edge
key_edge e = (key_node e.0, key_node e.1)

abbrev pub graph_nodes : Graph → List Node
graph_nodes g = map key_node g.nodes

abbrev pub graph_edges : Graph → List Edge
graph_edges g = map key_edge g.edges

-- the node lines, and then the edge lines
abbrev pub graph_lines : List Node → List Edge → List Line
graph_lines nodes edges = map node_line nodes ++ map (λ e. edge_line e.0 e.1) edges

-- the text of these lines
abbrev pub text_of_graph : Names → Graph → List ℕ
text_of_graph names g = lines_text names (graph_lines (graph_nodes g) (graph_edges g))

abbrev pub node_line_text : Names → NodeKey → List ℕ
node_line_text names k = line_text names (node_line (key_node k))

abbrev pub edge_line_text : Names → NodeKey × NodeKey → List ℕ
edge_line_text names e = line_text names (edge_line (key_node e.0) (key_node e.1))

-- the node is one of these names'
abbrev pub IsKeyIn : Names → NodeKey → Type 0
IsKeyIn names k = IsNodeIn names (key_node k)

abbrev pub IsEdgeIn : Names → NodeKey × NodeKey → Type 0
IsEdgeIn names e = IsKeyIn names e.0 × IsKeyIn names e.1
