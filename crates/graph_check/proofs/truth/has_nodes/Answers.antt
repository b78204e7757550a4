use Rattle.static_preds.{specs.Values.{scope_of}, proofs.Walked.{node_fits}}
use Rattle.graph_check.proofs.FirstMembers.{item_at}
use Rattle.graph_check.proofs.truth.has_nodes.Goals as goal

pub node_key-requires-clause-fits : goal.node_key-requires-clause-fits
node_key-requires-clause-fits c =
    let nodes = c.args.nodes.now in let k = c.loop-node.node-index in
    node_fits (scope_of c.args.env.now.items) nodes k c.node-item.result (item_at nodes k c.node-item.result c.loop-node-test.true c.node-item.is)
    c.requires.fit
