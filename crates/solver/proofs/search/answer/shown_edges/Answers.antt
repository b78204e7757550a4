use Rattle.std.proofs.{Common.{◌≡◌, map, ap, ◌∙◌, length}, lemmas.Result.{IfOk-weaker}}
use Rattle.solver.{specs.Shown.{edge_over, AreEdges}, proofs.Shown.{edges_shown, pairs_from}}
use Rattle.graph_text.specs.Graphs.{key_edge}
use Rattle.solver.proofs.search.answer.shown_edges.Goals as goal

pub named_edges-requires-clause-from : goal.named_edges-requires-clause-from
named_edges-requires-clause-from c =
    rw c.as_slice.ensures.keys ((pairs_from (length c.args.tree.now.nodes) c.args.graph.now.literals c.in_ok-pairs.pairs.keys
    c.requires.below c.in_ok-pairs.ensures).0)

pub named_edges-requires-clause-to : goal.named_edges-requires-clause-to
named_edges-requires-clause-to c =
    rw c.as_slice.ensures.keys ((pairs_from (length c.args.tree.now.nodes) c.args.graph.now.literals c.in_ok-pairs.pairs.keys
    c.requires.below c.in_ok-pairs.ensures).1)

pub returns : goal.returns
returns c =
    let nodes = c.args.tree.now.nodes in
    let ls = c.args.graph.now.literals in
    IfOk-weaker c.named_edges.result (λ edges. map key_edge edges ≡ map (edge_over nodes) c.as_slice.result.now)
    (λ edges. AreEdges nodes ls (map key_edge edges))
    (λ edges e. edges_shown nodes ls c.in_ok-pairs.pairs.keys (map key_edge edges) (e ∙ ap (map (edge_over nodes)) c.as_slice.ensures.keys)
    c.in_ok-pairs.ensures)
    c.named_edges.ensures
