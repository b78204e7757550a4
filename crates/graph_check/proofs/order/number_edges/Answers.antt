use Rattle.std.proofs.Common.{map, take, ◌∙◌}
use Rattle.pc_ground.specs.Keys.{key_node}
use Rattle.graph_text.specs.Graphs.{key_edge}
use Rattle.graph_check.proofs.{ArcChains.{no_arcs, more_arcs, next_arcs, no_ends, number_within}, FirstMembers.{item_at}}
use Rattle.graph_check.proofs.order.number_edges.Goals as goal

pub returns-in-None : goal.returns-in-None
returns-in-None c =
    let keys = c.args.edges.now in let k = c.loop-edge.edge-index in
    no_ends c.args.nodes.now keys k c.edge-item.result (item_at keys k c.edge-item.result c.loop-edge-test.true c.edge-item.is) c.in-None.ensures

pub loop-edge-preserved : goal.loop-edge-preserved
loop-edge-preserved c =
    let keys = c.args.edges.now in let k = c.loop-edge.edge-index in let e = c.edge-item.result in
    next_arcs c.args.nodes.now keys k e c.push.new.self (item_at keys k e c.loop-edge-test.true c.edge-item.is)
    (more_arcs c.args.nodes.now (map key_edge (take k keys)) c.loop-edge.adjacency c.push.new.self c.in-Some.from c.in-Some.to (key_node e.0) (key_node e.1)
    c.loop-edge.invariant c.in_ok-push-in-Some.ensures.linked c.in_ok-push-in-Some.ensures.nodes c.in-Some.ensures.0 c.in-Some.ensures.1
    c.in_ok-push-in-Some.ensures.joins)

pub loop-edge-init : goal.loop-edge-init
loop-edge-init c =
    no_arcs c.args.nodes.now c.in_ok-adjacency.adjacency c.len.ensures.distinct c.in_ok-adjacency.ensures.linked
    (c.in_ok-adjacency.ensures.nodes ∙ c.len.ensures.count) c.in_ok-adjacency.ensures.clear

pub push-requires-clause-from : goal.push-requires-clause-from
push-requires-clause-from c =
    number_within c.args.nodes.now _ c.loop-edge.adjacency c.loop-edge.invariant c.in-Some.from (key_node c.edge-item.result.0) c.in-Some.ensures.0

pub push-requires-clause-to : goal.push-requires-clause-to
push-requires-clause-to c =
    number_within c.args.nodes.now _ c.loop-edge.adjacency c.loop-edge.invariant c.in-Some.to (key_node c.edge-item.result.1) c.in-Some.ensures.1
