-- The edges before the next one are there.
use Rattle.std.proofs.Common.{◌≡◌, drop}
use Rattle.pc_common.specs.{World.{Node, World}, Generated.{IsGenerated}}
use Rattle.pc_syntax.specs.Closed.{closed_edges, closed_true}
use Rattle.static_preds.specs.Values.{meanings}
use Rattle.graph_check.proofs.truth.has_edges.Given as goal

abbrev pub invariant-loop-edge : goal.invariant-loop-edge
invariant-loop-edge l = record {
  same : l.order ≡ l.fn.order;
  truth : (w : World Node) → IsGenerated l.fn.order.nodes l.fn.order.edges w
      → closed_true l.case w (meanings l.env.items) (closed_edges l.edges)
      ≡ closed_true l.case w (meanings l.env.items) (closed_edges (drop l.edge-index l.edges));
}
