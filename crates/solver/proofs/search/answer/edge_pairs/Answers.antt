use Rattle.std.proofs.Common.{arith}
use Rattle.solver.proofs.Shown.{edges_more, edges_all}
use Rattle.solver.proofs.search.answer.edge_pairs.Goals as goal

pub loop-k-preserved : goal.loop-k-preserved
loop-k-preserved c =
    edges_more c.args.graph.now.literals c.loop-k.k c.literal.result c.loop-k.pairs.keys c.note_edge.new.pairs.keys
    c.literal.ensures c.loop-k.invariant c.in_ok-note_edge.ensures

pub returns : goal.returns
returns c = edges_all c.args.graph.now.literals c.loop-k.pairs.keys c.loop-k.k (omega arith) c.loop-k.invariant
