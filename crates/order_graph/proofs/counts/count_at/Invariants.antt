use Rattle.std.proofs.Common.{◌≡◌, ◌<◌, ◌+◌, length, take, get_or, sum}
use Rattle.order_graph.proofs.counts.count_at.Given as goal

abbrev pub invariant-loop-before : goal.invariant-loop-before
invariant-loop-before l = record {
  inside : l.at < length l.counts;
  all : l.before ≡ sum (take l.at l.counts);
  past : l.mark < l.before + get_or l.counts l.at 0;
}

abbrev pub decreases-loop-before : goal.decreases-loop-before
decreases-loop-before l = l.at
