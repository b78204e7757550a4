use Rattle.std.proofs.Common.{sym, ◌∙◌}
use Rattle.pc_ground.specs.Keys.{key_node}
use Rattle.graph_text.specs.Graphs.{graph_nodes, graph_edges}
use Rattle.graph_check.proofs.GraphWorlds.{node_is}
use Rattle.graph_check.proofs.order.Order.has_node.Goals as goal

pub returns : goal.returns
returns c =
    let g = c.self.inside.graph.now in
    rw (sym c.self.view_is) (λ w is. c.is_some.ensures
    ∙ node_is (graph_nodes g) c.self.inside.nodes (graph_edges g) (key_node c.args.node) c.number.result c.self.invariant.same_nodes c.number.ensures w is)
