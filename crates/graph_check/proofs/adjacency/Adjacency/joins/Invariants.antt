-- The walk still comes to an edge that leads to b, where there is one.
use Rattle.graph_check.specs.Arcs.{Joins, IsWalk, ComesTo}
use Rattle.graph_check.proofs.adjacency.Adjacency.joins.Given as goal

abbrev pub invariant-loop-at : goal.invariant-loop-at
invariant-loop-at l = record {
  walk : IsWalk l.self l.a l.at;
  rest : Joins l.self l.a l.b → ComesTo l.self l.at l.b;
}

abbrev pub decreases-loop-at : goal.decreases-loop-at
decreases-loop-at l = l.at
