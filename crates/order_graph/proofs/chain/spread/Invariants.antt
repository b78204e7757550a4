use Rattle.std.proofs.Common.{◌-◌, length}
use Rattle.order_graph.specs.Levels.{IsSearched}
use Rattle.order_graph.proofs.chain.spread.Given as goal

abbrev pub invariant-loop-done : goal.invariant-loop-done
invariant-loop-done l = IsSearched l.literals l.target (length l.initial.levels) l.done l.levels l.nexts l.queue.items

abbrev pub decreases-loop-done : goal.decreases-loop-done
decreases-loop-done l = length l.initial.levels - l.done
