-- The first pieces were put.
use Rattle.std.{proofs.Common.{take}, specs.List.{flat_map}}
use Rattle.pc_common.specs.{Writes.{success}, Room.{Puts}}
use Rattle.pc_common.proofs.room.Room.put_all.Given as goal

abbrev pub invariant-loop-piece : goal.invariant-loop-piece
invariant-loop-piece g l =
    Puts g.K.Sink.view l.initial.self l.self success (flat_map (λ p. p.now) (take l.piece-index l.pieces))
