use Rattle.static_preds.{specs.Values.{scope_of}, proofs.Walked.{edge_fits}}
use Rattle.lifted_facts.proofs.member.edge_member.Goals as goal

pub node_key-requires-clause-fits : goal.node_key-requires-clause-fits
node_key-requires-clause-fits c = (edge_fits (scope_of c.args.said.now.env.items) c.args.edges.now _ c.get-edge.result.now c.get-edge.ensures c.requires.fit).0

pub node_key-requires-2-clause-fits : goal.node_key-requires-2-clause-fits
node_key-requires-2-clause-fits c =
    (edge_fits (scope_of c.args.said.now.env.items) c.args.edges.now _ c.get-edge.result.now c.get-edge.ensures c.requires.fit).1
