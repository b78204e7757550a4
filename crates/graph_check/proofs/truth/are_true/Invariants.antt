-- The axioms before the next one are true.
use Rattle.std.proofs.Common.{◌≡◌, drop}
use Rattle.pc_common.specs.{World.{Node, World}, Generated.{IsGenerated}}
use Rattle.pc_syntax.specs.Closed.{closed_satisfies}
use Rattle.pc_ground.specs.Stages.{plain_axioms}
use Rattle.graph_check.proofs.truth.are_true.Given as goal

abbrev pub invariant-loop-axiom : goal.invariant-loop-axiom
invariant-loop-axiom l = record {
  same : l.order ≡ l.fn.order;
  truth : (w : World Node) → IsGenerated l.fn.order.nodes l.fn.order.edges w
      → closed_satisfies (plain_axioms l.axioms) l.case w ≡ closed_satisfies (plain_axioms (drop l.axiom-index l.axioms)) l.case w;
}
