use Rattle.order_graph.proofs.Orders.{order_now}
use Rattle.order_graph.proofs.graph.OrderGraph.len.Goals as goal

pub returns-clause-graph : goal.returns-clause-graph
returns-clause-graph c =
    let s = c.self.inside in
    let now = order_now s.nodes s.table s.literals.items s.moments.items s.counts.items s.live c.self.invariant in
    rw (← c.self.view_is) record { consistent = now.consistent; below = now.below }
