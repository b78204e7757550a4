use Rattle.std.proofs.Common.{◌<◌, ◌++◌, ◌∷◌, [], true, false, length, sym, ◌∙◌, arith}
use Rattle.pc_syntax.specs.{Truth.{range_of}, Closed.{plain_closed, closed_true, meaning_of}}
use Rattle.static_preds.{specs.{Slots.{bound_at}, Values.{meanings}}, proofs.{Ranges.{value, scope_inside}, SlotLaws.{slot_more}, SlotsBelow.{slots_below}}}
use Rattle.graph_check.proofs.{FirstMembers.{all_next, all_stop, any_next, any_stop, judged}, GraphWorlds.{generated_at}}
use Rattle.graph_check.proofs.truth.+walk.Goals as goal

pub is_true-holds-requires-clause-below : goal.is_true-holds-requires-clause-below
is_true-holds-requires-clause-below t c = slots_below (length c.args.case.now.ops) c.args.env.now.items c.in-Static.args c.requires.range.ops

pub is_true_for_all-is_true-requires : goal.is_true_for_all-is_true-requires
is_true_for_all-is_true-requires t c =
    let slots = c.args.env.now.items in let inside = c.bind_next.new.inside.items in
    let is = c.value_in_range.ensures in
    let in_range = c.range_len-k-end.ensures.values c.loop-k.k c.loop-k-test.true in (
      omega (arith, c.decreases),
      (
        rw (scope_inside slots inside c.args.sort c.loop-k.k c.value_in_range.result c.bind_next.ensures.items is) c.requires.closed,
        rw c.bind_next.ensures.items (slot_more c.args.case.now slots c.value_in_range.result c.requires.range (rw is in_range)),
      ),
    )

pub is_true_for_all-returns-then-not-branch-clause-truth : goal.is_true_for_all-returns-then-not-branch-clause-truth
is_true_for_all-returns-then-not-branch-clause-truth t c = λ w is_made.
    let slots = c.args.env.now.items in let inside = c.bind_next.new.inside.items in
    let p = plain_closed c.args.body.now in let k = c.loop-k.k in
    let range = range_of c.args.case.now c.args.sort in
    let within : k < length range = omega (arith, c.range_len-k-end.ensures.count, c.loop-k-test.true) in
    let there = value c.args.case.now c.args.sort k within in
    let is = judged c.args.case.now w slots inside c.args.sort p k c.value_in_range.result c.in_ok-is_true.field-0 false c.value_in_range.ensures
    c.bind_next.ensures.items (c.in_ok-is_true.ensures.truth w (generated_at w c.loop-k.order c.args.order.now c.loop-k.invariant.same is_made))
    c.if-not-branch.true in
    sym (c.loop-k.invariant.all w is_made ∙ all_stop (λ v. closed_true c.args.case.now w (meanings slots ++ v ∷ []) p) range k
    (meaning_of (bound_at c.args.sort k)) there is)

pub is_true_for_all-loop-k-preserved : goal.is_true_for_all-loop-k-preserved
is_true_for_all-loop-k-preserved t c =
    let slots = c.args.env.now.items in let inside = c.bind_next.new.inside.items in
    let p = plain_closed c.args.body.now in let k = c.loop-k.k in
    let range = range_of c.args.case.now c.args.sort in
    let within : k < length range = omega (arith, c.range_len-k-end.ensures.count, c.loop-k-test.true) in
    let there = value c.args.case.now c.args.sort k within in
    record {
      same = c.in_ok-is_true.ensures.same ∙ c.loop-k.invariant.same;
      begins = c.bind_next.ensures.begins;
      all = λ w is_made.
          let is = judged c.args.case.now w slots inside c.args.sort p k c.value_in_range.result c.in_ok-is_true.field-0 true c.value_in_range.ensures
          c.bind_next.ensures.items (c.in_ok-is_true.ensures.truth w (generated_at w c.loop-k.order c.args.order.now c.loop-k.invariant.same is_made))
          c.if-not-branch.false in
          c.loop-k.invariant.all w is_made ∙ all_next (λ v. closed_true c.args.case.now w (meanings slots ++ v ∷ []) p) range k
          (meaning_of (bound_at c.args.sort k)) there is;
    }

pub is_true_for_some-is_true-requires : goal.is_true_for_some-is_true-requires
is_true_for_some-is_true-requires t c =
    let slots = c.args.env.now.items in let inside = c.bind_next.new.inside.items in
    let is = c.value_in_range.ensures in
    let in_range = c.range_len-k-end.ensures.values c.loop-k.k c.loop-k-test.true in (
      omega (arith, c.decreases),
      (
        rw (scope_inside slots inside c.args.sort c.loop-k.k c.value_in_range.result c.bind_next.ensures.items is) c.requires.closed,
        rw c.bind_next.ensures.items (slot_more c.args.case.now slots c.value_in_range.result c.requires.range (rw is in_range)),
      ),
    )

pub is_true_for_some-returns-then-branch-clause-truth : goal.is_true_for_some-returns-then-branch-clause-truth
is_true_for_some-returns-then-branch-clause-truth t c = λ w is_made.
    let slots = c.args.env.now.items in let inside = c.bind_next.new.inside.items in
    let p = plain_closed c.args.body.now in let k = c.loop-k.k in
    let range = range_of c.args.case.now c.args.sort in
    let within : k < length range = omega (arith, c.range_len-k-end.ensures.count, c.loop-k-test.true) in
    let there = value c.args.case.now c.args.sort k within in
    let is = judged c.args.case.now w slots inside c.args.sort p k c.value_in_range.result c.in_ok-is_true.field-0 true c.value_in_range.ensures
    c.bind_next.ensures.items (c.in_ok-is_true.ensures.truth w (generated_at w c.loop-k.order c.args.order.now c.loop-k.invariant.same is_made))
    c.if-branch.true in
    sym (c.loop-k.invariant.some w is_made ∙ any_stop (λ v. closed_true c.args.case.now w (meanings slots ++ v ∷ []) p) range k
    (meaning_of (bound_at c.args.sort k)) there is)

pub is_true_for_some-loop-k-preserved : goal.is_true_for_some-loop-k-preserved
is_true_for_some-loop-k-preserved t c =
    let slots = c.args.env.now.items in let inside = c.bind_next.new.inside.items in
    let p = plain_closed c.args.body.now in let k = c.loop-k.k in
    let range = range_of c.args.case.now c.args.sort in
    let within : k < length range = omega (arith, c.range_len-k-end.ensures.count, c.loop-k-test.true) in
    let there = value c.args.case.now c.args.sort k within in
    record {
      same = c.in_ok-is_true.ensures.same ∙ c.loop-k.invariant.same;
      begins = c.bind_next.ensures.begins;
      some = λ w is_made.
          let is = judged c.args.case.now w slots inside c.args.sort p k c.value_in_range.result c.in_ok-is_true.field-0 false c.value_in_range.ensures
          c.bind_next.ensures.items (c.in_ok-is_true.ensures.truth w (generated_at w c.loop-k.order c.args.order.now c.loop-k.invariant.same is_made))
          c.if-branch.false in
          c.loop-k.invariant.some w is_made ∙ any_next (λ v. closed_true c.args.case.now w (meanings slots ++ v ∷ []) p) range k
          (meaning_of (bound_at c.args.sort k)) there is;
    }
