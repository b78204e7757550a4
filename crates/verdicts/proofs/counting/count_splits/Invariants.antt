-- The splits of the first steps were counted.
use Rattle.std.proofs.Common.{◌≡◌, ◌≤◌, take}
use Rattle.verdicts.specs.StepCounts.{splits_of}
use Rattle.verdicts.proofs.counting.count_splits.Given as goal

abbrev pub invariant-loop-k : goal.invariant-loop-k
invariant-loop-k l = (l.splits ≡ splits_of (take l.k l.steps)) × (l.splits ≤ l.k)
