-- From `start` on no byte is LF.
use Rattle.std.{proofs.Common.{◌≡◌, ◌≤◌, ◌<◌, ℕ, length, get_or, not, true}, specs.Prelude.{◌==◌}}
use Rattle.pc_common.proofs.line_column.tail_len.Given as goal

abbrev pub invariant-loop-start : goal.invariant-loop-start
invariant-loop-start l = record {
  within : l.start ≤ length l.before;
  no_line_end : (k : ℕ) → l.start ≤ k → k < length l.before → not (get_or l.before k 0 == 10) ≡ true;
}

abbrev pub decreases-loop-start : goal.decreases-loop-start
decreases-loop-start l = l.start
