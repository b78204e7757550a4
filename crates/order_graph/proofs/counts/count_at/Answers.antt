use Rattle.std.proofs.{Common.{◌≡◌, ◌∙◌, ℕ, zero, suc, ◌+◌, ◌-◌, ◌<◌, ◌≤◌, List, length, take, get_or, sum, ap, arith}, lemmas.List.{take_all, Sums.{sum_by_more}}}
use Rattle.order_graph.proofs.counts.count_at.Goals as goal

sum_last : (cs : List ℕ) (at : ℕ) → 0 < at → at ≤ length cs → sum (take at cs) ≡ sum (take (at - 1) cs) + get_or cs (at - 1) 0
sum_last cs at positive inside =
    let next : at ≡ at - 1 + 1 = omega arith in ap (λ k. sum (take k cs)) next ∙ sum_by_more (λ x. x) cs (at - 1) 0 (omega arith)

some_before : (cs : List ℕ) (at : ℕ) → 0 < sum (take at cs) → 0 < at
some_before cs zero some = absurd (omega arith)
some_before cs (suc at) some = omega arith

pub loop-before-init : goal.loop-before-init
loop-before-init c =
    let counts = c.args.counts.now in let first = c.requires.first in let some = c.requires.some in
    let whole = ap sum (take_all (length counts) counts (omega arith)) in
    let last = sum_last counts (length counts) first (omega arith) in
    let all = c.requires.all in
    record { inside = omega arith; all = omega arith; past = omega arith }

pub overflow_sub-at-in-loop-before : goal.overflow_sub-at-in-loop-before
overflow_sub-at-in-loop-before c =
    let all = c.loop-before.invariant.all in let test = c.loop-before-test.true in
    some_before c.args.counts.now c.loop-before.at (omega arith)

pub overflow_sub-before-in-loop-before : goal.overflow_sub-before-in-loop-before
overflow_sub-before-in-loop-before c =
    let counts = c.args.counts.now in let all = c.loop-before.invariant.all in let test = c.loop-before-test.true in
    let inside = c.loop-before.invariant.inside in
    let last = sum_last counts c.loop-before.at (some_before counts c.loop-before.at (omega arith)) (omega arith) in
    omega arith

pub loop-before-preserved : goal.loop-before-preserved
loop-before-preserved c =
    let counts = c.args.counts.now in let all = c.loop-before.invariant.all in let test = c.loop-before-test.true in
    let inside = c.loop-before.invariant.inside in
    let last = sum_last counts c.loop-before.at (some_before counts c.loop-before.at (omega arith)) (omega arith) in
    record { inside = omega arith; all = omega arith; past = omega arith }
