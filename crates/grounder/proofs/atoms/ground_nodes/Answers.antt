use Rattle.std.proofs.Common.{ap, ◌∙◌, arith}
use Rattle.pc_ground.specs.{declared.literal.Literal.TheVariants.{Node as a_node}, Keys.{key_node}, PlainGround.{ground_literal, ground_conjoined}}
use Rattle.static_preds.{specs.Values.{scope_of}, proofs.Walked.{node_fits}}
use Rattle.grounder.proofs.LastOnes.{last_ones}
use Rattle.grounder.proofs.atoms.ground_nodes.Goals as goal

pub node_key-node-requires-clause-fits : goal.node_key-node-requires-clause-fits
node_key-node-requires-clause-fits c = node_fits (scope_of c.args.env.now.items) c.args.nodes.now _ c.get.result.now c.get.ensures c.requires.fit

pub loop-k-preserved : goal.loop-k-preserved
loop-k-preserved c =
    let next = last_ones c.args.nodes.now c.loop-k.k _ c.get.result.now c.get.ensures (omega arith) in
    rw (next, c.node_key-node.ensures)
    (c.in_ok-whole.ensures ∙ ap (ground_conjoined (ground_literal (a_node (key_node c.node_key-node.result)))) c.loop-k.invariant)
