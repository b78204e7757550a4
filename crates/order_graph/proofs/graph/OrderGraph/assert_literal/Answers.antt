use Rattle.std.proofs.{Common.{◌∙◌, length, refl, ap}, lemmas.List.{length_push}}
use Rattle.order_graph.proofs.{OneMore.{more}, IsClash.{clashes_refute}, TakesEdge.{takes}, MarkLists.{marks_none}}
use Rattle.order_graph.proofs.Orders.{order_now, order_sized, order_more, found_none, found_some, order_kept}
use Rattle.order_graph.proofs.graph.OrderGraph.assert_literal.Goals as goal

pub clash_of-requires-clause-represents : goal.clash_of-requires-clause-represents
clash_of-requires-clause-represents g c =
    let s = c.self.inside in
    rw c.deref.ensures.value (order_now s.nodes s.table s.literals.items s.moments.items s.counts.items s.live c.self.invariant)

pub returns-in-Some-clause-added : goal.returns-in-Some-clause-added
returns-in-Some-clause-added g c =
    let s = c.self.inside in
    let told = found_some c.deref.result.now s.literals.items c.args.literal c.in_ok-found.found c.in-Some.clash
    c.deref.ensures.value c.in_ok-found.ensures c.in-Some.is in
    rw (← c.self.view_is) (refl, told, clashes_refute (more s.literals.items c.args.literal) c.in-Some.clash told)

pub keep-requires-clause-takes : goal.keep-requires-clause-takes
keep-requires-clause-takes g c =
    let s = c.self.inside in
    let consistent = found_none c.deref.result.now s.literals.items c.args.literal c.in_ok-found.found c.deref.ensures.value
    c.in_ok-found.ensures c.in_default.is in
    let sized = order_sized s.nodes s.table s.literals.items s.moments.items s.counts.items s.live c.self.invariant in
    takes s.nodes s.table s.literals.items c.args.literal (order_now s.nodes s.table s.literals.items s.moments.items s.counts.items s.live c.self.invariant)
    sized.1 (rw (← c.self.view_is) at c.requires) consistent

pub invariant_of-self-2 : goal.invariant_of-self-2
invariant_of-self-2 g c =
    let s = c.self.inside in
    let consistent = found_none c.deref.result.now s.literals.items c.args.literal c.in_ok-found.found c.deref.ensures.value
    c.in_ok-found.ensures c.in_default.is in
    let counts = c.in_ok-keep.ensures.counts in
    rw c.in_ok-keep.ensures.literals
    (order_more s.nodes s.table c.keep.new.table s.literals.items s.moments.items s.counts.items s.live c.args.literal
    c.self.invariant (rw (← c.self.view_is) at c.requires)
    c.in_ok-keep.ensures.entered c.in_ok-keep.ensures.trail consistent c.keep.new.moments.items c.keep.new.counts.items c.in_ok-keep.ensures.moments
    (ap length counts ∙ length_push s.counts.items 0) (rw counts (marks_none 0 s.counts.items)))

pub returns-clause-added : goal.returns-clause-added
returns-clause-added g c =
    let s = c.self.inside in
    let consistent = found_none c.deref.result.now s.literals.items c.args.literal c.in_ok-found.found c.deref.ensures.value
    c.in_ok-found.ensures c.in_default.is in
    rw (← c.self.view_is) (
      order_kept s.nodes s.table c.keep.new.table s.literals.items s.moments.items s.counts.items s.live c.args.literal c.self.invariant
          c.in_ok-keep.ensures.trail c.keep.new.literals.items c.keep.new.moments.items c.keep.new.counts.items
          c.in_ok-keep.ensures.literals c.in_ok-keep.ensures.moments c.in_ok-keep.ensures.counts,
      consistent,
    )

pub returns-clause-cost : goal.returns-clause-cost
returns-clause-cost g c = rw (← c.self.view_is) c.keep.ensures.cost

pub returns-in_err-keep-clause-cost : goal.returns-in_err-keep-clause-cost
returns-in_err-keep-clause-cost g c = rw (← c.self.view_is) c.keep.ensures.cost

pub invariant_of-self : goal.invariant_of-self
invariant_of-self g c =
    let (table, literals, moments, counts) = c.in_err-keep.ensures.err in rw (table, literals, moments, counts) c.self.invariant
