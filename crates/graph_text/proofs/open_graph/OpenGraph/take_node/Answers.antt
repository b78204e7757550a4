use Rattle.std.{proofs.lemmas.List.{map_push}, specs.Map.{keys_of}}
use Rattle.pc_ground.{specs.Keys.{key_node}, proofs.{Nodes.{key_eq}, MapKeys.{keys_put}}}
use Rattle.graph_text.{specs.Graphs.{graph_nodes, graph_edges}, proofs.OpenGraphs.{open_node}}
use Rattle.graph_text.proofs.open_graph.OpenGraph.take_node.Goals as goal

pub invariant_of-self-2 : goal.invariant_of-self-2
invariant_of-self-2 c =
    let entries = c.self.inside.listed.entries in
    rw (
      c.in_ok-insert.ensures.entries,
      c.in_ok-reserve.ensures.entries,
      keys_put key_eq c.args.key _ entries,
      c.in_ok-push.ensures,
      map_push key_node c.self.inside.graph.nodes c.args.key,
    )
    (open_node (keys_of entries) (graph_nodes c.self.inside.graph) (graph_edges c.self.inside.graph) c.args.key c.self.invariant)
