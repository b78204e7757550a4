use Rattle.std.proofs.Common.{length}
use Rattle.order_graph.proofs.IsSearched.{IsVisiting}
use Rattle.order_graph.proofs.chain.visit.Given as goal

abbrev pub invariant-loop-at : goal.invariant-loop-at
invariant-loop-at l = IsVisiting l.literals l.links l.target (length l.initial.levels) l.done l.node l.at l.levels l.nexts l.queue.items

abbrev pub decreases-loop-at : goal.decreases-loop-at
decreases-loop-at l = l.at
