-- The first edges are entered.
use Rattle.std.proofs.Common.{map, take}
use Rattle.graph_text.specs.Graphs.{key_edge}
use Rattle.graph_check.specs.Orders.{AreArcsOf}
use Rattle.graph_check.proofs.order.number_edges.Given as goal

abbrev pub invariant-loop-edge : goal.invariant-loop-edge
invariant-loop-edge l = AreArcsOf l.nodes (map key_edge (take l.edge-index l.edges)) l.adjacency
