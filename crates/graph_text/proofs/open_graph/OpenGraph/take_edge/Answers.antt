use Rattle.std.{proofs.{Common.{sym, ◌∙◌, refl}, lemmas.List.{map_push}}, specs.Map.{keys_of}}
use Rattle.graph_text.{specs.Graphs.{key_edge, graph_nodes, graph_edges}, proofs.OpenGraphs.{open_edge, edge_put, is_listed, not_listed}}
use Rattle.graph_text.proofs.open_graph.OpenGraph.take_edge.Goals.{then-not-contains_key-via-then-not-contains_key, then-not-contains_key-via-else-not-contains_key+then-not-contains_key-2}
use Rattle.pc_ground.specs.Keys.{key_node}
use Rattle.graph_text.proofs.open_graph.OpenGraph.take_edge.Goals as goal

pub returns-then-not-contains_key-clause-taken : goal.returns-then-not-contains_key-clause-taken
returns-then-not-contains_key-clause-taken c =
    let entries = c.self.inside.listed.entries in let nodes = graph_nodes c.self.inside.graph in
    let edges = graph_edges c.self.inside.graph in
    rw (sym c.self.view_is) (
      λ ends. elim c.then-not-contains_key.branch [
        | then-not-contains_key-via-then-not-contains_key w ↦ not_listed entries nodes edges c.args.from c.self.invariant
            (sym c.contains_key.ensures ∙ w.if-not-contains_key.true) ends.0
        | then-not-contains_key-via-else-not-contains_key+then-not-contains_key-2 w ↦
            not_listed entries nodes edges c.args.to c.self.invariant (sym w.contains_key-else-not-contains_key.ensures ∙ w.if-not-contains_key-2.true) ends.1
      ],
      refl,
    )

pub invariant_of-self-2 : goal.invariant_of-self-2
invariant_of-self-2 c =
    let entries = c.self.inside.listed.entries in let nodes = graph_nodes c.self.inside.graph in
    let edges = graph_edges c.self.inside.graph in
    rw (c.in_ok-push.ensures, map_push key_edge c.self.inside.graph.edges (c.args.from, c.args.to))
    (open_edge (keys_of entries) nodes edges (key_node c.args.from) (key_node c.args.to) c.self.invariant
    (is_listed entries nodes edges c.args.from c.self.invariant (sym c.contains_key.ensures ∙ c.if-not-contains_key.false))
    (is_listed entries nodes edges c.args.to c.self.invariant (sym c.contains_key-else-not-contains_key.ensures ∙ c.if-not-contains_key-2.false)))

pub returns-clause-taken : goal.returns-clause-taken
returns-clause-taken c =
    let entries = c.self.inside.listed.entries in let nodes = graph_nodes c.self.inside.graph in
    let edges = graph_edges c.self.inside.graph in
    rw (sym c.self.view_is) (record {
      follows = (
        is_listed entries nodes edges c.args.from c.self.invariant (sym c.contains_key.ensures ∙ c.if-not-contains_key.false),
        is_listed entries nodes edges c.args.to c.self.invariant (sym c.contains_key-else-not-contains_key.ensures ∙ c.if-not-contains_key-2.false),
      );
      lines = rw (c.in_ok-push.ensures, map_push key_edge c.self.inside.graph.edges (c.args.from, c.args.to))
          (edge_put nodes edges (key_node c.args.from) (key_node c.args.to));
    })
