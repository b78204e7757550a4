-- The search goes on, with fewer steps left.
use Rattle.graph_check.specs.Searches.{progress, IsSearching, IsFurther, steps_left}
use Rattle.graph_check.proofs.search.run.Given as goal

abbrev pub invariant-loop-visit : goal.invariant-loop-visit
invariant-loop-visit l = record {
  searching : IsSearching l.adjacency (progress l.search);
  further : IsFurther l.initial.search.marks.items l.search.marks.items;
}

abbrev pub decreases-loop-visit : goal.decreases-loop-visit
decreases-loop-visit l = steps_left l.adjacency (progress l.search)
