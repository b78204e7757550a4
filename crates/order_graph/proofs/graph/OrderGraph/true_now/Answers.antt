use Rattle.order_graph.proofs.Orders.{order_now}
use Rattle.order_graph.proofs.graph.OrderGraph.true_now.Goals as goal

pub returns : goal.returns
returns c =
    let s = c.self.inside in
    rw (← c.self.view_is) (c.is_true.ensures s.literals.items
    (order_now s.nodes s.table s.literals.items s.moments.items s.counts.items s.live c.self.invariant))
