use Rattle.std.proofs.Common.{refl}
use Rattle.graph_text.specs.Graphs.{graph_nodes, graph_edges}
use Rattle.graph_check.proofs.{ArcChains.{ends_over, acyclic_up, acyclic_down, starts_within}, ColumnFlags.{topological_acyclic}, GraphWorlds.{where_none}}
use Rattle.graph_check.proofs.order.Order.generate.Goals as goal

pub returns-in_default : goal.returns-in_default
returns-in_default c = λ o.
    let same = rw c.as_slice.ensures.value at c.in_ok-nodes.ensures in
    let none = rw c.as_slice-2.ensures.value at (where_none _ c.in_ok-adjacency.field-0 c.in_ok-adjacency.ensures c.in_default.not-Some) in
    none (ends_over (graph_nodes c.args.graph.now) c.in_ok-nodes.nodes (graph_edges c.args.graph.now) (λ a h. (same a).1 h) o.ends)

pub returns-in_default-2 : goal.returns-in_default-2
returns-in_default-2 c = λ o.
    let arcs = rw c.as_slice-2.ensures.value at (rw c.in-Some.is at c.in_ok-adjacency.ensures) in
    where_none _ c.in_ok-order.field-0 c.in_ok-order.ensures c.in_default-2.not-Some
    (acyclic_up c.in_ok-nodes.nodes (graph_edges c.args.graph.now) c.in-Some.adjacency arcs o.acyclic)

pub invariant_of-result : goal.invariant_of-result
invariant_of-result c = record {
  same_nodes = rw c.as_slice.ensures.value at c.in_ok-nodes.ensures;
  arcs = rw c.as_slice-2.ensures.value at (rw c.in-Some.is at c.in_ok-adjacency.ensures);
  order_is = rw c.in-Some-2.is at c.in_ok-order.ensures;
  columns = c.in_ok-columns.ensures;
}

pub returns : goal.returns
returns c = (
  refl,
  (let same = rw c.as_slice.ensures.value at c.in_ok-nodes.ensures in
      let arcs = rw c.as_slice-2.ensures.value at (rw c.in-Some.is at c.in_ok-adjacency.ensures) in
      let nodes = c.in_ok-nodes.nodes in let edges = graph_edges c.args.graph.now in let v = c.in-Some.adjacency in
      record {
        ends = ends_over nodes (graph_nodes c.args.graph.now) edges (λ a h. (same a).0 h) arcs.ends;
        acyclic = acyclic_down nodes edges v arcs
            (topological_acyclic v c.in-Some-2.order.items (rw c.in-Some-2.is at c.in_ok-order.ensures) (starts_within nodes edges v arcs));
      }),
)
