use Rattle.std.proofs.Common.{◌+◌, ◌*◌}
use Rattle.undo_trail.specs.BitTable.{HasSet}
use Rattle.pc_ground.specs.declared.literal.Literal.TheVariants.{Node, NoNode}
use Rattle.order_graph.{specs.Rows.{Enters}, proofs.{Results.{on_ok}, EntersBits.{entered_node, entered_no_node}}}
use Rattle.order_graph.proofs.rows.enter.Goals as goal

pub enter_edge-requires-clause-takes : goal.enter_edge-requires-clause-takes
enter_edge-requires-clause-takes g c = rw c.in-Edge.is at c.requires.takes

pub returns-in-Node-clause-entered : goal.returns-in-Node-clause-entered
returns-in-Node-clause-entered g c =
    let v = c.args.table.now in let w = c.enter_bit.new.table in
    rw c.in-Node.is
    (on_ok (HasSet v w (2 * c.args.nodes) c.in-Node.a) (Enters c.args.nodes (Node c.in-Node.a) v w) c.enter_bit.result c.enter_bit.ensures.set
    (entered_node c.args.nodes v w c.in-Node.a c.requires.sized))

pub returns-in-Edge-clause-entered : goal.returns-in-Edge-clause-entered
returns-in-Edge-clause-entered g c = rw c.in-Edge.is c.enter_edge.ensures.entered

pub returns-in-NoNode-clause-entered : goal.returns-in-NoNode-clause-entered
returns-in-NoNode-clause-entered g c =
    let v = c.args.table.now in let w = c.enter_bit-in-NoNode.new.table in
    rw c.in-NoNode.is
    (on_ok (HasSet v w (2 * c.args.nodes + 1) c.in-NoNode.a) (Enters c.args.nodes (NoNode c.in-NoNode.a) v w) c.enter_bit-in-NoNode.result
    c.enter_bit-in-NoNode.ensures.set (entered_no_node c.args.nodes v w c.in-NoNode.a c.requires.sized))

pub returns-in-NoEdge-clause-entered : goal.returns-in-NoEdge-clause-entered
returns-in-NoEdge-clause-entered g c = rw c.in-NoEdge.is c.enter_pair.ensures.entered
