use Rattle.std.proofs.Common.{◌≡◌, ◌∙◌, [], ◌∷◌, length, ap}
use Rattle.order_graph.proofs.Orders.{order_first}
use Rattle.order_graph.proofs.graph.OrderGraph.new.Goals as goal

pub invariant_of-result : goal.invariant_of-result
invariant_of-result c =
    let moments : c.in_ok-moments.moments.items ≡ 0 ∷ [] =
    c.in_ok-moments.ensures.items ∙ ap (λ m. m ∷ []) (c.mark.ensures.last ∙ ap (λ v. length v.past) c.in_ok-table.ensures.value) in
    rw (c.new-2.ensures.items, moments, c.in_ok-counts.ensures.items)
    (order_first c.args.nodes c.in_ok-table.table c.requires c.in_ok-table.ensures.value)
