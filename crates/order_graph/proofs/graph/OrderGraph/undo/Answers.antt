use Rattle.std.proofs.Common.{◌≡◌, ◌∙◌, ◌+◌, ◌≤◌, List, ℕ, length, take, get_or, sum, ap, refl, sym, arith}
use Rattle.std.proofs.lemmas.List.{get_or_read, length_push, take_more_set}
use Rattle.undo_trail.specs.BitTable.{tables}
use Rattle.order_graph.{specs.Marks.{marks_from}, proofs.{MarkLists.{length-marks, IsCutAt, cut_at}, Orders.{order_undone, order_cost}}}
use Rattle.order_graph.proofs.graph.OrderGraph.undo.Given.{Over}
use Rattle.order_graph.proofs.graph.OrderGraph.undo.Goals as goal

pub count_at-count-requires-clause-all : goal.count_at-count-requires-clause-all
count_at-count-requires-clause-all g c =
    c.self.invariant.lived ∙ length-marks 0 c.self.inside.counts.items ∙ ap sum (sym c.deref.ensures.value)

pub undo-requires : goal.undo-requires
undo-requires g c =
    let s = c.self.inside in
    let moments : List ℕ = s.moments.items in
    let k = c.count_at-count.result.0 in
    let inside = rw c.deref.ensures.value at c.count_at-count.ensures.inside in
    let counts_all = c.self.invariant.counts_all in let moments_all = c.self.invariant.moments_all in
    let moment : c.index.result.now ≡ get_or moments k 0 = get_or_read moments k c.index.result.now (omega arith) c.index.ensures 0 in
    let cost = order_cost s.nodes s.table s.literals.items moments s.counts.items s.live c.self.invariant k (omega arith) in
    let low = cost.0 in
    let pushed = length_push s.table.past s.table.now in
    omega arith

-- where the counts are cut
cut : (g : Over) (c : goal.After-self-2-1 g) → IsCutAt c.self.inside.counts.items c.count_at-count.result.0 c.count_at-count.result.1 c.args.mark
cut g c =
    let inside = rw c.deref.ensures.value at c.count_at-count.ensures.inside in
    let place = rw c.deref.ensures.value at c.count_at-count.ensures.place in
    let high = rw c.deref.ensures.value at c.count_at-count.ensures.high in
    cut_at c.self.inside.counts.items c.count_at-count.result.0 c.count_at-count.result.1 c.args.mark inside (place ∙ ap (λ m. m + 1) c.place.ensures)
    c.count_at-count.ensures.low high

-- the cut is within the literals
low : (g : Over) (c : goal.After-self-2-1 g) → c.count_at-count.result.0 ≤ length c.self.inside.literals.items
low g c =
    let inside = rw c.deref.ensures.value at c.count_at-count.ensures.inside in
    let counts_all = c.self.invariant.counts_all in
    omega arith

moment : (g : Over) (c : goal.After-self-2-1 g) → c.index.result.now ≡ get_or c.self.inside.moments.items c.count_at-count.result.0 0
moment g c =
    let k_low = low g c in
    let moments_all = c.self.invariant.moments_all in
    get_or_read c.self.inside.moments.items c.count_at-count.result.0 c.index.result.now (omega arith) c.index.ensures 0

pub invariant_of-self : goal.invariant_of-self
invariant_of-self g c =
    let s = c.self.inside in let k = c.count_at-count.result.0 in
    let inside = rw c.deref.ensures.value at c.count_at-count.ensures.inside in
    let tables_are : tables c.undo.new.self ≡ take (get_or s.moments.items k 0 + 1) (tables s.table) =
    c.undo.ensures.tables ∙ ap (λ m. take (m + 1) (tables s.table)) (moment g c) in
    rw (c.truncate.ensures.items, c.truncate-2.ensures.items, c.truncate-3.ensures.items, c.place-2.ensures)
    (order_undone s.nodes s.table c.undo.new.self s.literals.items s.moments.items s.counts.items s.live c.self.invariant k c.count_at-count.result.1
    c.args.mark inside (cut g c)
    c.undo.ensures.rows c.undo.ensures.words tables_are)

pub returns-clause-cut : goal.returns-clause-cut
returns-clause-cut g c =
    let s = c.self.inside in
    let inside = rw c.deref.ensures.value at c.count_at-count.ensures.inside in
    rw (← c.self.view_is, (cut g c).at) record {
      same_nodes = refl;
      literals = c.truncate.ensures.items;
      marks = ap (marks_from 0) (c.truncate-3.ensures.items ∙ take_more_set s.counts.items c.count_at-count.result.0 c.count_at-count.result.1 inside)
          ∙ (cut g c).marks;
      recorded = c.truncate-2.ensures.items;
    }

pub returns-clause-count : goal.returns-clause-count
returns-clause-count g c = rw (← c.self.view_is, (cut g c).at) (low g c)

pub returns-clause-cost : goal.returns-clause-cost
returns-clause-cost g c =
    let s = c.self.inside in
    let at = moment g c in
    let last = c.self.invariant.last in let counted = c.undo.ensures.cost in
    rw (← c.self.view_is, (cut g c).at) (omega arith)

pub returns-clause-bound : goal.returns-clause-bound
returns-clause-bound g c =
    let s = c.self.inside in let k = c.count_at-count.result.0 in
    let at = moment g c in
    let counted = c.undo.ensures.cost in
    let cost = order_cost s.nodes s.table s.literals.items s.moments.items s.counts.items s.live c.self.invariant k (low g c) in
    let most = cost.1 in
    rw (← c.self.view_is, (cut g c).at) (omega arith)
