use Rattle.std.proofs.Common.{ap, sym, ◌∙◌, arith}
use Rattle.pc_ground.specs.{Keys.{literal_node}, PlainGround.{ground_literal, ground_conjoined}}
use Rattle.static_preds.{specs.Values.{scope_of}, proofs.Walked.{edge_fits}}
use Rattle.grounder.proofs.LastOnes.{last_ones}
use Rattle.grounder.proofs.atoms.ground_edges.Goals as goal

pub edge_literal-edge-requires-clause-from : goal.edge_literal-edge-requires-clause-from
edge_literal-edge-requires-clause-from c = (edge_fits (scope_of c.args.env.now.items) c.args.edges.now _ c.get.result.now c.get.ensures c.requires.fit).0

pub edge_literal-edge-requires-clause-to : goal.edge_literal-edge-requires-clause-to
edge_literal-edge-requires-clause-to c = (edge_fits (scope_of c.args.env.now.items) c.args.edges.now _ c.get.result.now c.get.ensures c.requires.fit).1

pub loop-k-preserved : goal.loop-k-preserved
loop-k-preserved c =
    let next = last_ones c.args.edges.now c.loop-k.k _ c.get.result.now c.get.ensures (omega arith) in
    rw (next, sym c.edge_literal-edge.ensures)
    (c.in_ok-whole.ensures ∙ ap (ground_conjoined (ground_literal (literal_node c.edge_literal-edge.result))) c.loop-k.invariant)
