-- Each function's measure is of the formula that it walks; and what the loops over a range keep: the body is true, or false, at the
-- values before the next one.
use Rattle.std.{proofs.Common.{◌≡◌, ◌+◌, ◌*◌, ◌++◌, ◌∷◌, [], length, take, drop}, specs.List.{list_all, list_any}}
use Rattle.pc_common.specs.{World.{Node, World}, Generated.{IsGenerated}}
use Rattle.pc_syntax.specs.{declared.closed_formula.ClosedFormula.{size-ClosedFormula}, Truth.{range_of}}
use Rattle.pc_syntax.specs.Closed.{plain_closed, closed_forall, closed_exists, closed_true}
use Rattle.static_preds.specs.Values.{meanings}
use Rattle.graph_check.proofs.truth.+walk.Given as goal

abbrev pub decreases-is_true : goal.decreases-is_true
decreases-is_true l = 2 * size-ClosedFormula l.formula.now

abbrev pub decreases-is_true_for_all : goal.decreases-is_true_for_all
decreases-is_true_for_all l = 2 * size-ClosedFormula l.body.now + 1

abbrev pub decreases-is_true_for_some : goal.decreases-is_true_for_some
decreases-is_true_for_some l = 2 * size-ClosedFormula l.body.now + 1

abbrev pub decreases-is_true_inside : goal.decreases-is_true_inside
decreases-is_true_inside l = 2 * size-ClosedFormula l.body.now + 1

abbrev pub invariant-is_true_for_all-loop-k : goal.invariant-is_true_for_all-loop-k
invariant-is_true_for_all-loop-k l = record {
  same : l.order ≡ l.fn.order;
  begins : take (length l.env.items) l.inside.items ≡ l.env.items;
  all : (w : World Node) → IsGenerated l.fn.order.nodes l.fn.order.edges w
      → closed_true l.case w (meanings l.env.items) (closed_forall l.sort (plain_closed l.body))
      ≡ list_all (λ v. closed_true l.case w (meanings l.env.items ++ v ∷ []) (plain_closed l.body)) (drop l.k (range_of l.case l.sort));
}

abbrev pub invariant-is_true_for_some-loop-k : goal.invariant-is_true_for_some-loop-k
invariant-is_true_for_some-loop-k l = record {
  same : l.order ≡ l.fn.order;
  begins : take (length l.env.items) l.inside.items ≡ l.env.items;
  some : (w : World Node) → IsGenerated l.fn.order.nodes l.fn.order.edges w
      → closed_true l.case w (meanings l.env.items) (closed_exists l.sort (plain_closed l.body))
      ≡ list_any (λ v. closed_true l.case w (meanings l.env.items ++ v ∷ []) (plain_closed l.body)) (drop l.k (range_of l.case l.sort));
}
