-- The text of a graph's lines, by its nodes and edges.
use Rattle.std.{proofs.{Common.{◌≡◌, List, [], ◌∷◌, ◌++◌, map, refl, sym, ◌∙◌, ap}, lemmas.List.Concat.{flat_map-append}}, specs.List.{flat_map}}
use Rattle.pc_common.specs.Lines.{Names, lines_text, line_text, node as node_line, edge as edge_line}
use Rattle.pc_ground.specs.{Keys.{key_node}, declared.node_key.NodeKey.{NodeKey}}
use Rattle.graph_text.specs.{declared.graph.Graph.{Graph}, Graphs.{key_edge, graph_nodes, graph_edges, graph_lines, node_line_text, edge_line_text}}

node_lines : (names : Names) (ks : List NodeKey) → flat_map (node_line_text names) ks ≡ flat_map (line_text names) (map node_line (map key_node ks))
node_lines names [] = refl
node_lines names (k ∷ ks) = ap (λ zs. node_line_text names k ++ zs) (node_lines names ks)

edge_lines : (names : Names) (es : List (NodeKey × NodeKey))
    → flat_map (edge_line_text names) es ≡ flat_map (line_text names) (map (λ e. edge_line e.0 e.1) (map key_edge es))
edge_lines names [] = refl
edge_lines names (e ∷ es) = ap (λ zs. edge_line_text names e ++ zs) (edge_lines names es)

pub graph_text : (names : Names) (g : Graph)
    → flat_map (node_line_text names) g.nodes ++ flat_map (edge_line_text names) g.edges ≡ lines_text names (graph_lines (graph_nodes g) (graph_edges g))
graph_text names g =
    ap (λ xs. xs ++ flat_map (edge_line_text names) g.edges) (node_lines names g.nodes)
    ∙ ap (λ ys. flat_map (line_text names) (map node_line (graph_nodes g)) ++ ys) (edge_lines names g.edges)
    ∙ sym (flat_map-append (line_text names) (map node_line (graph_nodes g)) (map (λ e. edge_line e.0 e.1) (graph_edges g)))
