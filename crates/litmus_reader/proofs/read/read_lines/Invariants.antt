use Rattle.std.proofs.Common.{◌-◌, length}
use Rattle.litmus_reader.proofs.Walk.{Reached}
use Rattle.litmus_reader.proofs.read.read_lines.Given as goal

abbrev pub invariant-loop-at : goal.invariant-loop-at
invariant-loop-at l = Reached l.tokens l.at l.builder

abbrev pub decreases-loop-at : goal.decreases-loop-at
decreases-loop-at l = length l.tokens - l.at
