use Rattle.std.proofs.Common.{◌≡◌, map, arith, length}
use Rattle.pc_ground.specs.Keys.{key_node}
use Rattle.solver.proofs.Shown.{present_more}
use Rattle.solver.proofs.search.answer.present_nodes.Goals as goal

pub loop-k-preserved : goal.loop-k-preserved
loop-k-preserved c =
    present_more c.args.tree.now.nodes c.args.graph.now.literals c.loop-k.k (map key_node c.loop-k.nodes) (map key_node c.note_present.new.nodes)
    c.in_ok-note_present.ensures c.loop-k.invariant

pub returns : goal.returns
returns c =
    let same : c.loop-k.k ≡ length c.args.tree.now.nodes = omega arith in
    rw same at c.loop-k.invariant
