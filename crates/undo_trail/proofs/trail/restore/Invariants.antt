use Rattle.std.proofs.Common.{◌≡◌, ◌+◌, ◌-◌, ◌≤◌, length, drop}
use Rattle.undo_trail.specs.Trail.{back}
use Rattle.undo_trail.proofs.trail.restore.Given as goal

abbrev pub invariant-loop-at : goal.invariant-loop-at
invariant-loop-at g l = record {
  low : l.keep ≤ l.at;
  high : l.at ≤ length l.trail;
  taken : l.table ≡ back (drop l.at l.trail) l.initial.table;
  cost : l.steps ≡ l.initial.steps + (length l.trail - l.at);
}

abbrev pub decreases-loop-at : goal.decreases-loop-at
decreases-loop-at g l = l.at
