use Rattle.std.proofs.Common.{◌*◌, ◌<◌, ap, arith}
use Rattle.order_graph.proofs.Orders.{order_now, order_sized}
use Rattle.order_graph.proofs.graph.OrderGraph.descendants.Goals as goal

pub returns : goal.returns
returns c b b_in =
    let s = c.self.inside in
    let nodes = ap (λ v. v.nodes) c.self.view_is in
    let a_in = c.requires in
    let sized = order_sized s.nodes s.table s.literals.items s.moments.items s.counts.items s.live c.self.invariant in
    let wide = sized.1 in
    let now = order_now s.nodes s.table s.literals.items s.moments.items s.counts.items s.live c.self.invariant in
    let row : c.args.a < s.nodes = omega arith in
    let column : b < 64 * s.table.words = omega arith in
    rw (c.row.ensures.columns b column, ← c.self.view_is) (now.reach c.args.a b row column)
