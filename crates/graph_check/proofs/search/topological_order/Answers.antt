use Rattle.std.proofs.Common.{replicate, ◌∙◌, ap, arith}
use Rattle.graph_check.{specs.{declared.search.Mark.TheVariants.{New}, Searches.{progress}}, proofs.SearchSteps.{begun, marked_next, in_order}}
use Rattle.graph_check.proofs.search.topological_order.Goals as goal

pub loop-node-init : goal.loop-node-init
loop-node-init c = record {
  searching = begun c.args.adjacency.now c.in_ok-vec.field-0.items c.new.result.items c.new-2.result.items
      (c.in_ok-vec.ensures.items_if_clones_equal (λ y e. e) ∙ ap (λ n. replicate n New) c.nodes-nodes.ensures) c.new.ensures.items c.new-2.ensures.items;
  at_rest = c.new.ensures.items;
  marked = λ b low. absurd (omega (arith, low));
}

pub loop-node-preserved : goal.loop-node-preserved
loop-node-preserved c =
    let both = rw c.if-not-branch.false at c.in_ok-search_from.ensures.searching in
    record {
      searching = both.0;
      at_rest = both.1;
      marked = marked_next c.loop-node.search.marks.items c.search_from.new.search.marks.items c.loop-node.node
          c.in_ok-search_from.ensures.further c.loop-node.invariant.marked c.in_ok-search_from.ensures.marked;
    }

pub returns : goal.returns
returns c =
    in_order c.args.adjacency.now (progress c.loop-node.search) c.loop-node.invariant.searching c.loop-node.invariant.at_rest
    (λ b low. c.loop-node.invariant.marked b (omega (arith, low, c.loop-node-test.false, c.nodes-nodes.ensures)))
