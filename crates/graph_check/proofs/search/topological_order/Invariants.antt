-- The first nodes are not new.
use Rattle.std.proofs.Common.{◌≡◌, ◌<◌, ℕ, []}
use Rattle.graph_check.specs.{declared.search.Mark.TheVariants.{New}, Searches.{progress, mark_of, IsSearching}}
use Rattle.graph_check.proofs.search.topological_order.Given as goal

abbrev pub invariant-loop-node : goal.invariant-loop-node
invariant-loop-node l = record {
  searching : IsSearching l.adjacency (progress l.search);
  at_rest : l.search.path.items ≡ [];
  marked : (b : ℕ) → b < l.node → mark_of l.search.marks.items b ≡ New → ⊥;
}
