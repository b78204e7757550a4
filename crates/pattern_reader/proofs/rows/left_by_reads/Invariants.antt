use Rattle.std.proofs.Common.{◌≡◌, ◌≤◌, drop, map, length}
use Rattle.pattern_reader.specs.{Rows.{left_by}, Reads.{values_in}}
use Rattle.pattern_reader.proofs.rows.left_by_reads.Given as goal

abbrev pub invariant-loop-at : goal.invariant-loop-at
invariant-loop-at l = (l.left ≡ left_by (map values_in (drop l.at l.reads)) l.row) × (l.at ≤ length l.reads) × (l.from ≤ l.at)

abbrev pub decreases-loop-at : goal.decreases-loop-at
decreases-loop-at l = l.at
