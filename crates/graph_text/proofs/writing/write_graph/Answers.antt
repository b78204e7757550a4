use Rattle.std.proofs.Common.{rules, refl}
use Rattle.pc_common.proofs.Rooms.{puts_text, room_stop, room_flushed}
use Rattle.graph_text.proofs.Texts.{graph_text}
use Rattle.graph_text.proofs.writing.write_graph.Goals as goal

pub returns-in_err-put_graph : goal.returns-in_err-put_graph
returns-in_err-put_graph g c =
    room_stop c.new-room.ensures.out (search rules) c.new-room.ensures.empty refl c.from_residual.ensures.0
    (puts_text _ (graph_text c.args.names.now c.args.graph.now) c.in_err-put_graph.ensures)

pub returns : goal.returns
returns g c =
    room_flushed c.new-room.ensures.out (search rules) c.new-room.ensures.empty refl
    (puts_text _ (graph_text c.args.names.now c.args.graph.now) c.in_ok-put_graph.ensures) c.flush.ensures
