use Rattle.std.proofs.{Common.{arith, refl}, lemmas.Grind.{common_steps}}
use Rattle.pc_common.proofs.RoomPieces.{puts_failed, puts_next}
use Rattle.pc_common.proofs.room.Room.put_all.Goals as goal

pub returns-in_err-put : goal.returns-in_err-put
returns-in_err-put g c =
    puts_failed (λ p. p.now) c.args.pieces.now c.loop-piece.piece-index _ c.loop-piece-test.true refl c.from_residual.ensures.0
    c.loop-piece.invariant c.in_err-put.ensures.puts

pub loop-piece-preserved : goal.loop-piece-preserved
loop-piece-preserved g c =
    puts_next (λ p. p.now) c.args.pieces.now c.loop-piece.piece-index _ c.loop-piece-test.true refl c.loop-piece.invariant c.in_ok-put.ensures.puts

pub returns : goal.returns
returns g c = grind (arith, common_steps)
