use Rattle.static_preds.{specs.Values.{scope_of}, proofs.Walked.{edge_fits}}
use Rattle.graph_check.proofs.FirstMembers.{item_at}
use Rattle.graph_check.proofs.truth.has_edges.Goals as goal

pub node_key-from-requires-clause-fits : goal.node_key-from-requires-clause-fits
node_key-from-requires-clause-fits c =
    let edges = c.args.edges.now in let k = c.loop-edge.edge-index in
    (edge_fits (scope_of c.args.env.now.items) edges k c.edge-item.result (item_at edges k c.edge-item.result c.loop-edge-test.true c.edge-item.is)
    c.requires.fit).0

pub node_key-to-requires-clause-fits : goal.node_key-to-requires-clause-fits
node_key-to-requires-clause-fits c =
    let edges = c.args.edges.now in let k = c.loop-edge.edge-index in
    (edge_fits (scope_of c.args.env.now.items) edges k c.edge-item.result (item_at edges k c.edge-item.result c.loop-edge-test.true c.edge-item.is)
    c.requires.fit).1
