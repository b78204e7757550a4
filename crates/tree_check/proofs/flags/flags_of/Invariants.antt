use Rattle.std.proofs.Common.{◌≡◌, length}
use Rattle.tree_check.proofs.flags.flags_of.Given as goal

abbrev pub invariant-loop-k : goal.invariant-loop-k
invariant-loop-k l = length l.stays.items ≡ l.count
