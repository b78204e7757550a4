-- The first lines were put.
use Rattle.std.{proofs.Common.{take}, specs.List.{flat_map}}
use Rattle.pc_common.specs.{Writes.{success}, Room.{Puts}}
use Rattle.graph_text.specs.Graphs.{node_line_text}
use Rattle.graph_text.proofs.writing.put_nodes.Given as goal

abbrev pub invariant-loop-key : goal.invariant-loop-key
invariant-loop-key g l =
    Puts g.K.Sink.view l.initial.room l.room success (flat_map (node_line_text l.names) (take l.key-index l.keys))
