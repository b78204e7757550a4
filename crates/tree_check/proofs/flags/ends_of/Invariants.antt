use Rattle.std.proofs.Common.{◌≡◌, length}
use Rattle.tree_check.proofs.flags.ends_of.Given as goal

abbrev pub invariant-loop-cut : goal.invariant-loop-cut
invariant-loop-cut l = length l.ends.items ≡ l.count
