use Rattle.std.proofs.Common.{◌≢◌, ◌<◌, length, get_or}
use Rattle.order_graph.specs.{Ways.{IsWay}, Levels.{IsNext, far}}
use Rattle.order_graph.proofs.chain.walk.Given as goal

abbrev pub invariant-loop-at : goal.invariant-loop-at
invariant-loop-at l = record {
  way : IsWay (IsNext l.levels l.nexts) l.from l.way.items l.at;
  at_in : l.at < length l.levels;
  near : get_or l.levels l.at 0 ≢ far;
}

abbrev pub decreases-loop-at : goal.decreases-loop-at
decreases-loop-at l = get_or l.levels l.at 0
