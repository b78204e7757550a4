use Rattle.static_preds.{specs.Values.{scope_of}, proofs.Walked.{node_fits}}
use Rattle.lifted_facts.proofs.member.node_member.Goals as goal

pub node_key-requires-clause-fits : goal.node_key-requires-clause-fits
node_key-requires-clause-fits c = node_fits (scope_of c.args.said.now.env.items) c.args.nodes.now _ c.get.result.now c.get.ensures c.requires.fit
