-- The walk still comes to each edge that leads to b or to a node whose flag is set.
use Rattle.std.proofs.Common.{◌≡◌, ◌⊎◌, ℕ, true}
use Rattle.graph_check.specs.{Arcs.{Joins, IsWalk, ComesTo}, Columns.{is_set}}
use Rattle.graph_check.proofs.adjacency.Adjacency.leads.Given as goal

abbrev pub invariant-loop-at : goal.invariant-loop-at
invariant-loop-at l = record {
  walk : IsWalk l.self l.a l.at;
  rest : (c : ℕ) → Joins l.self l.a c → (c ≡ l.b) ⊎ (is_set l.column c ≡ true) → ComesTo l.self l.at c;
}

abbrev pub decreases-loop-at : goal.decreases-loop-at
decreases-loop-at l = l.at
