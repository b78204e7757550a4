use Rattle.std.proofs.Common.{◌≡◌, ◌≤◌, ◌-◌, ℕ, List, ◌++◌, length, take}
use Rattle.pc_ground.specs.{Rows.{turned_rows}, Refutes.{all_signed, literals_of}, Walks.{Walk}}
use Rattle.solver.specs.{Spelled.{spelled}, Places.{asserted_at}, Opens.{positions, IsFurther}}
use Rattle.solver.proofs.search.enter.enter_part.Given as goal

-- the positions so far and those that the walk still comes to are those of the whole part
abbrev pub invariant-loop-at : goal.invariant-loop-at
invariant-loop-at g l = record {
  end : l.end ≤ length l.tree.rows;
  walk : (ps : List ℕ) × Walk (turned_rows l.negated l.tree.rows) l.end l.at ps
      × (positions l.asserted ++ all_signed l.negated ps ≡ positions l.fn.asserted ++ asserted_at (spelled l.tree.rows) l.negated l.root);
  literals : l.graph.literals ≡ literals_of (spelled l.tree.rows) (positions l.asserted);
  further : IsFurther l.fn.graph l.graph;
  kept : take (length l.fn.asserted) l.asserted ≡ l.fn.asserted;
}

abbrev pub decreases-loop-at : goal.decreases-loop-at
decreases-loop-at g l = l.end - l.at
