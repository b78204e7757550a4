-- The nodes before the next one are there.
use Rattle.std.proofs.Common.{◌≡◌, drop}
use Rattle.pc_common.specs.{World.{Node, World}, Generated.{IsGenerated}}
use Rattle.pc_syntax.specs.Closed.{closed_nodes, closed_true}
use Rattle.static_preds.specs.Values.{meanings}
use Rattle.graph_check.proofs.truth.has_nodes.Given as goal

abbrev pub invariant-loop-node : goal.invariant-loop-node
invariant-loop-node l = (w : World Node) → IsGenerated l.order.nodes l.order.edges w
    → closed_true l.case w (meanings l.env.items) (closed_nodes l.nodes)
    ≡ closed_true l.case w (meanings l.env.items) (closed_nodes (drop l.node-index l.nodes))
