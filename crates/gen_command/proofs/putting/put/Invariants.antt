-- The first pieces were put.
use Rattle.std.proofs.Common.{◌≡◌, ◌++◌, take, flat_map}
use Rattle.gen_command.proofs.putting.put.Given as goal

abbrev pub invariant-loop-piece : goal.invariant-loop-piece
invariant-loop-piece l =
    l.text.items ≡ l.initial.text.items ++ flat_map (λ p. p.now) (take l.piece-index l.pieces)
