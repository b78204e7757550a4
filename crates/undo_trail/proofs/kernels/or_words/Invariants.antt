use Rattle.std.proofs.Common.{◌≡◌, ◌<◌, ◌≤◌, ℕ, get_or, bit_or}
use Rattle.undo_trail.proofs.kernels.or_words.Given as goal

abbrev pub invariant-loop-k : goal.invariant-loop-k
invariant-loop-k l = record {
  done : (i : ℕ) → i < l.k → get_or l.dst i 0 ≡ bit_or (get_or l.initial.dst i 0) (get_or l.src i 0);
  left : (i : ℕ) → l.k ≤ i → get_or l.dst i 0 ≡ get_or l.initial.dst i 0;
}
