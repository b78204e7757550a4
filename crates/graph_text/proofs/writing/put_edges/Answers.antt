use Rattle.std.proofs.Common.{refl, sym, subst}
use Rattle.pc_common.proofs.RoomPieces.{puts_next, puts_failed}
use Rattle.graph_text.specs.Graphs.{edge_line_text, IsEdgeIn}
use Rattle.graph_text.proofs.writing.put_edges.Goals as goal

pub put_edge_line-requires : goal.put_edge_line-requires
put_edge_line-requires g c =
    let ends = subst (IsEdgeIn c.args.names.now) (sym c.ends-item.is) (c.requires c.loop-ends.ends-index c.ends-item.result c.loop-ends-test.true) in
    record { from = ends.0; to = ends.1 }

pub returns-in_err-put_edge_line : goal.returns-in_err-put_edge_line
returns-in_err-put_edge_line g c =
    puts_failed (edge_line_text c.args.names.now) c.args.edges.now c.loop-ends.ends-index _ c.loop-ends-test.true refl c.from_residual.ensures.0
    c.loop-ends.invariant (rw c.ends-item.is at c.in_err-put_edge_line.ensures)

pub loop-ends-preserved : goal.loop-ends-preserved
loop-ends-preserved g c =
    puts_next (edge_line_text c.args.names.now) c.args.edges.now c.loop-ends.ends-index _ c.loop-ends-test.true refl c.loop-ends.invariant
    (rw c.ends-item.is at c.in_ok-put_edge_line.ensures)
