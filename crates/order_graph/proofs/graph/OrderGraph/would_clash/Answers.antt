use Rattle.order_graph.proofs.Orders.{order_now, order_sized}
use Rattle.order_graph.proofs.graph.OrderGraph.would_clash.Goals as goal

pub would_clash-requires-clause-sized : goal.would_clash-requires-clause-sized
would_clash-requires-clause-sized c =
    let s = c.self.inside in order_sized s.nodes s.table s.literals.items s.moments.items s.counts.items s.live c.self.invariant

pub returns : goal.returns
returns c =
    let s = c.self.inside in
    rw (← c.self.view_is)
    (c.would_clash.ensures s.literals.items (order_now s.nodes s.table s.literals.items s.moments.items s.counts.items s.live c.self.invariant))
