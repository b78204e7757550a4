use Rattle.std.proofs.Common.{sym}
use Rattle.pc_ground.specs.Keys.{key_node}
use Rattle.graph_text.specs.Graphs.{graph_nodes, graph_edges}
use Rattle.graph_check.proofs.{ArcChains.{ends_over, acyclic_down, starts_within, number_within}, ColumnFlags.{topological_acyclic}}
use Rattle.graph_check.proofs.GraphWorlds.{edge_answer, edge_is_none}
use Rattle.graph_check.proofs.order.Order.has_edge.Goals as goal

pub returns-in-Some-clause-ordered : goal.returns-in-Some-clause-ordered
returns-in-Some-clause-ordered c =
    let g = c.self.inside.graph.now in
    rw (sym c.self.view_is) (edge_answer (graph_nodes g) c.self.inside.nodes (graph_edges g) c.self.inside.adjacency c.self.invariant.arcs c.in-Some.from
    c.in-Some.to
    (key_node c.args.from) (key_node c.args.to) c.in-Some.ensures.0 c.in-Some.ensures.1 c.leads.result c.leads.ensures.leads)

pub returns-in-None-clause-ordered : goal.returns-in-None-clause-ordered
returns-in-None-clause-ordered c =
    let g = c.self.inside.graph.now in let arcs = c.self.invariant.arcs in let nodes = c.self.inside.nodes in
    let v = c.self.inside.adjacency in
    rw (sym c.self.view_is) (edge_is_none (graph_nodes g) nodes (graph_edges g) (key_node c.args.from) (key_node c.args.to) c.self.invariant.same_nodes
    (record {
      ends = ends_over nodes (graph_nodes g) (graph_edges g) (λ a h. (c.self.invariant.same_nodes a).0 h) arcs.ends;
      acyclic = acyclic_down nodes (graph_edges g) v arcs
          (topological_acyclic v c.self.inside.order.items c.self.invariant.order_is (starts_within nodes (graph_edges g) v arcs));
    }) c.in-None.ensures)

pub leads-requires-clause-columns : goal.leads-requires-clause-columns
leads-requires-clause-columns c = c.self.invariant.columns

pub leads-requires-clause-order : goal.leads-requires-clause-order
leads-requires-clause-order c = rw c.deref.ensures.value c.self.invariant.order_is

pub leads-requires-clause-a_in : goal.leads-requires-clause-a_in
leads-requires-clause-a_in c =
    number_within c.self.inside.nodes (graph_edges c.self.inside.graph.now) c.self.inside.adjacency c.self.invariant.arcs c.in-Some.from
    (key_node c.args.from) c.in-Some.ensures.0

pub leads-requires-clause-b_in : goal.leads-requires-clause-b_in
leads-requires-clause-b_in c =
    number_within c.self.inside.nodes (graph_edges c.self.inside.graph.now) c.self.inside.adjacency c.self.invariant.arcs c.in-Some.to (key_node c.args.to)
    c.in-Some.ensures.1

pub invariant_of-self : goal.invariant_of-self
invariant_of-self c = record {
  same_nodes = c.self.invariant.same_nodes;
  arcs = c.self.invariant.arcs;
  order_is = c.self.invariant.order_is;
  columns = c.leads.ensures.columns;
}
