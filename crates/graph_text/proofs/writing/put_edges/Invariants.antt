-- The first lines were put.
use Rattle.std.{proofs.Common.{take}, specs.List.{flat_map}}
use Rattle.pc_common.specs.{Writes.{success}, Room.{Puts}}
use Rattle.graph_text.specs.Graphs.{edge_line_text}
use Rattle.graph_text.proofs.writing.put_edges.Given as goal

abbrev pub invariant-loop-ends : goal.invariant-loop-ends
invariant-loop-ends g l =
    Puts g.K.Sink.view l.initial.room l.room success (flat_map (edge_line_text l.names) (take l.ends-index l.edges))
