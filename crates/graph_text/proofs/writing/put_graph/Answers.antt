use Rattle.std.{proofs.Common.{List, All, refl, sym, subst}, specs.List.{flat_map}}
use Rattle.pc_common.proofs.Rooms.{puts_then, puts_stop}
use Rattle.pc_ground.specs.declared.node_key.NodeKey.{NodeKey}
use Rattle.graph_text.specs.Graphs.{edge_line_text, IsKeyIn, IsEdgeIn}
use Rattle.graph_text.proofs.writing.put_graph.Goals as goal

pub put_nodes-requires : goal.put_nodes-requires
put_nodes-requires g c =
    let P : List NodeKey → Type 0 = λ keys. All (IsKeyIn c.args.names.now) keys in subst P (sym c.as_slice.ensures.value) c.requires.nodes

pub put_edges-requires : goal.put_edges-requires
put_edges-requires g c =
    let P : List (NodeKey × NodeKey) → Type 0 = λ edges. All (IsEdgeIn c.args.names.now) edges in
    subst P (sym c.as_slice-2.ensures.value) c.requires.edges

pub returns-in_err-put_nodes : goal.returns-in_err-put_nodes
returns-in_err-put_nodes g c =
    puts_stop (flat_map (edge_line_text c.args.names.now) c.args.graph.now.edges) refl c.from_residual.ensures.0
    (rw c.as_slice.ensures.value at c.in_err-put_nodes.ensures)

pub returns : goal.returns
returns g c =
    puts_then refl (rw c.as_slice.ensures.value at c.in_ok-put_nodes.ensures) (rw c.as_slice-2.ensures.value at c.put_edges.ensures)
