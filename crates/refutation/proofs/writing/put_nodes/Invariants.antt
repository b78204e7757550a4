-- The first nodes were put.
use Rattle.std.proofs.Common.{take, map}
use Rattle.pc_common.specs.{Lines.{nodes_text}, Writes.{success}, Room.{Puts}}
use Rattle.pc_ground.specs.Keys.{key_node}
use Rattle.refutation.proofs.writing.put_nodes.Given as goal

abbrev pub invariant-loop-key : goal.invariant-loop-key
invariant-loop-key g l =
    Puts g.K.Sink.view l.initial.room l.room success (nodes_text l.names (take l.key-index (map key_node l.nodes)))
