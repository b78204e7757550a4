use Rattle.std.proofs.Common.{arith}
use Rattle.order_graph.proofs.CloseOver.{words_bound}
use Rattle.order_graph.proofs.rows.reserve_gained.Goals as goal

pub returns-then-nodes-each-clause-room : goal.returns-then-nodes-each-clause-room
returns-then-nodes-each-clause-room c =
    let bound = words_bound c.args.table.now c.args.a c.args.b c.args.each c.args.nodes in
    let fits = c.if-nodes-each.true in let room = c.room.ensures in
    omega arith
