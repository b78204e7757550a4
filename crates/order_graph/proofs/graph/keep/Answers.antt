use Rattle.std.proofs.Common.{◌∙◌, ◌∷◌, ◌++◌, [], ap}
use Rattle.order_graph.proofs.graph.keep.Goals as goal

pub returns-clause-literals : goal.returns-clause-literals
returns-clause-literals g c = c.push_reserved.ensures.items ∙ ap (λ ls. ls ++ c.args.literal ∷ []) c.in_ok-reserve.ensures.items

pub returns-clause-moments : goal.returns-clause-moments
returns-clause-moments g c =
    c.push_reserved-2.ensures.items ∙ (λ i. c.in_ok-reserve-2.ensures.items i ++ c.mark.ensures.last i ∷ [])

pub returns-clause-counts : goal.returns-clause-counts
returns-clause-counts g c = c.push_reserved-3.ensures.items ∙ ap (λ ns. ns ++ 0 ∷ []) c.in_ok-reserve-3.ensures.items

pub returns-clause-entered : goal.returns-clause-entered
returns-clause-entered g c = c.in_ok-enter.ensures.entered

pub returns-clause-trail : goal.returns-clause-trail
returns-clause-trail g c = c.in_ok-enter.ensures.trail

pub returns-clause-cost : goal.returns-clause-cost
returns-clause-cost g c = c.enter.ensures.cost
