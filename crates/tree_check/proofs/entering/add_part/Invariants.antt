use Rattle.std.proofs.Common.{◌≤◌, ◌-◌, length}
use Rattle.tree_check.proofs.SideFacts.{HasWalked}
use Rattle.tree_check.proofs.entering.add_part.Given as goal

abbrev pub invariant-loop-at : goal.invariant-loop-at
invariant-loop-at l = record {
  end : l.end ≤ length l.tree;
  walked : HasWalked l.tree l.negated l.root l.end l.at l.fn.facts l.facts;
}

abbrev pub decreases-loop-at : goal.decreases-loop-at
decreases-loop-at l = l.end - l.at
