use Rattle.std.proofs.Common.{length, ◌-◌, ℕ, ◌+◌, ◌<◌, ◌≤◌}
use Rattle.uspec_lexer.specs.Piece.{ClosesBlock}
use Rattle.uspec_lexer.proofs.scan.block_comment_end.Given as goal

abbrev pub invariant-loop-end : goal.invariant-loop-end
invariant-loop-end l = record {
  some : l.at + 2 ≤ l.end;
  within : l.end ≤ length l.bytes + 1;
  open_so_far : (i : ℕ) → l.at + 2 ≤ i → i < l.end → ¬ ClosesBlock l.bytes i;
}

abbrev pub decreases-loop-end : goal.decreases-loop-end
decreases-loop-end l = length l.bytes - l.end
