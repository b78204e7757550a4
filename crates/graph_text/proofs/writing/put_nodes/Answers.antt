use Rattle.std.proofs.Common.{refl, sym, subst}
use Rattle.pc_common.proofs.RoomPieces.{puts_next, puts_failed}
use Rattle.graph_text.specs.Graphs.{node_line_text, IsKeyIn}
use Rattle.graph_text.proofs.writing.put_nodes.Goals as goal

pub put_node_line-requires : goal.put_node_line-requires
put_node_line-requires g c =
    subst (IsKeyIn c.args.names.now) (sym c.key-item.is) (c.requires c.loop-key.key-index c.key-item.result c.loop-key-test.true)

pub returns-in_err-put_node_line : goal.returns-in_err-put_node_line
returns-in_err-put_node_line g c =
    puts_failed (node_line_text c.args.names.now) c.args.keys.now c.loop-key.key-index _ c.loop-key-test.true refl c.from_residual.ensures.0
    c.loop-key.invariant (rw c.key-item.is at c.in_err-put_node_line.ensures)

pub loop-key-preserved : goal.loop-key-preserved
loop-key-preserved g c =
    puts_next (node_line_text c.args.names.now) c.args.keys.now c.loop-key.key-index _ c.loop-key-test.true refl c.loop-key.invariant
    (rw c.key-item.is at c.in_ok-put_node_line.ensures)
