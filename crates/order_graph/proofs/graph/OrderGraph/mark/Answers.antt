use Rattle.std.proofs.{Common.{◌≡◌, ◌∙◌, ◌+◌, ◌-◌, ◌<◌, List, ℕ, length, get_or, set, refl, sym, ap, arith}, lemmas.List.{get_or_read, length-set, length_push}}
use Rattle.std.proofs.lemmas.List.Sums.{get_or-le-sum_by}
use Rattle.order_graph.{specs.Marks.{marks_from}, proofs.{Orders.{order_marked}, MarkLists.{length-marks, marks_last}}}
use Rattle.order_graph.proofs.graph.OrderGraph.mark.Goals as goal

pub overflow_add-index_mut : goal.overflow_add-index_mut
overflow_add-index_mut c =
    let s = c.self.inside in
    let counts : List ℕ = s.counts.items in
    let at = c.len-last.result - 1 in
    let size = s.counts.ok.0 in
    let all = c.self.invariant.counts_all in let len = c.len-last.ensures in
    let inside : at < length counts = omega arith in
    let count : c.index_mut.result.now ≡ get_or counts at 0 = get_or_read counts at c.index_mut.result.now inside c.index_mut.ensures.value 0 in
    let below = get_or-le-sum_by (λ x. x) counts at 0 inside in
    let marks = length-marks 0 counts in
    let now = ap (λ v. length v.marks) c.self.view_is in
    let few = c.requires in
    omega arith

pub invariant_of-self : goal.invariant_of-self
invariant_of-self c =
    let s = c.self.inside in
    let counts : List ℕ = s.counts.items in
    let n = length s.literals.items in
    let at = c.len-last.result - 1 in
    let size = s.counts.ok.0 in
    let all : length counts ≡ n + 1 = c.self.invariant.counts_all in
    let len = c.len-last.ensures in
    let inside : at < length counts = omega arith in
    let last : at ≡ n = omega arith in
    let count : c.index_mut.result.now ≡ get_or counts n 0 =
    get_or_read counts at c.index_mut.result.now inside c.index_mut.ensures.value 0 ∙ ap (λ k. get_or counts k 0) last in
    let more : List ℕ = set counts n (get_or counts n 0 + 1) in
    rw (last, count)
    (order_marked s.nodes s.table s.literals.items s.moments.items counts s.live c.self.invariant more (s.live + 1)
    (length-set counts n (get_or counts n 0 + 1))
    (ap (λ m. m + 1) c.self.invariant.lived ∙ sym (ap length (marks_last counts n all) ∙ length_push (marks_from 0 counts) n)))

pub returns-clause-graph : goal.returns-clause-graph
returns-clause-graph c =
    let s = c.self.inside in
    let counts : List ℕ = s.counts.items in
    let n = length s.literals.items in
    let at = c.len-last.result - 1 in
    let size = s.counts.ok.0 in
    let all : length counts ≡ n + 1 = c.self.invariant.counts_all in
    let len = c.len-last.ensures in
    let inside : at < length counts = omega arith in
    let last : at ≡ n = omega arith in
    let count : c.index_mut.result.now ≡ get_or counts n 0 =
    get_or_read counts at c.index_mut.result.now inside c.index_mut.ensures.value 0 ∙ ap (λ k. get_or counts k 0) last in
    rw (← c.self.view_is, last, count, marks_last counts n all) refl
