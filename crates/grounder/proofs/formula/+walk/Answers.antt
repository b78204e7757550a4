use Rattle.std.proofs.{Common.{◌≡◌, ◌<◌, ℕ, ◌+◌, List, [], ◌∷◌, ◌++◌, length, map, drop, refl, ap, sym, ◌∙◌, arith}, Math.Seq.{take-length}}
use Rattle.std.proofs.lemmas.List.{map-append}
use Rattle.pc_common.specs.Case.{Case}
use Rattle.pc_syntax.specs.{declared.{term.Sort.{Sort}, bound.Bound.{Bound}}, Truth.{range_of}, Closed.{PlainClosed, plain_closed, meaning_of}}
use Rattle.pc_ground.specs.{PlainGround.{PlainGround, plain_ground}, Unfolded.{closed_unfolded}}
use Rattle.static_preds.{proofs.{SlotsBelow.{slots_below}, SlotLaws.{slot_more}, Ranges.{next_value, scope_inside}}, specs.Slots.{bound_at}}
use Rattle.static_preds.specs.Values.{meanings}
use Rattle.grounder.{specs.{Members.{whole_of}, GroundingOf.{grounding_of}}, proofs.WithMembers.{grounding_at, simplified-all}}
use Rattle.grounder.proofs.formula.+walk.Goals as goal

-- what the values not walked yet say: the next member, and the others
walked : (c : Case) (slots inside : List Bound) (sort : Sort) (p : PlainClosed) (k : ℕ) (v : Bound) (g : PlainGround)
    → k < length (range_of c sort) → v ≡ bound_at sort k → inside ≡ slots ++ v ∷ [] → g ≡ grounding_of c inside p
    → map (grounding_at c slots p) (drop k (range_of c sort)) ≡ g ∷ map (grounding_at c slots p) (drop (k + 1) (range_of c sort))
walked c slots inside sort p k v g within value bound is =
    let here : grounding_of c inside p ≡ grounding_at c slots p (meaning_of v) = rw (bound, map-append meaning_of slots (v ∷ [])) refl in
    ap (map (grounding_at c slots p)) (next_value c sort k within) ∙
    ap (λ h. h ∷ map (grounding_at c slots p) (drop (k + 1) (range_of c sort))) (sym (is ∙ here ∙ ap (λ b. grounding_at c slots p (meaning_of b)) value))

pub ground_formula-holds-requires-clause-below : goal.ground_formula-holds-requires-clause-below
ground_formula-holds-requires-clause-below t c = slots_below (length c.args.case.now.ops) c.args.env.now.items c.in-Static.args c.requires.range.ops

pub ground_range-ground_formula-requires : goal.ground_range-ground_formula-requires
ground_range-ground_formula-requires t c =
    let slots = c.args.env.now.items in let inside = c.bind_next.new.inside.items in
    let value = c.value_in_range.ensures in
    let in_range = c.range_len-k-end.ensures.values c.loop-k.k c.loop-k-test.true in (
      omega (arith, c.decreases),
      (
        rw (scope_inside slots inside c.args.sort c.loop-k.k c.value_in_range.result c.bind_next.ensures.items value) c.requires.closed,
        rw c.bind_next.ensures.items (slot_more c.args.case.now slots c.value_in_range.result c.requires.range (rw value in_range)),
      ),
    )

pub ground_range-loop-k-init : goal.ground_range-loop-k-init
ground_range-loop-k-init t c =
    record {
      begins = rw c.copy_of-inside.ensures (take-length c.args.env.now.items);
      all =
          rw c.new-kept.ensures.items
          (simplified-all c.args.operator (λ v. closed_unfolded c.args.case.now (meanings c.args.env.now.items ++ v ∷ []) (plain_closed c.args.body.now))
          (range_of c.args.case.now c.args.sort));
    }

pub ground_range-returns-then-branch : goal.ground_range-returns-then-branch
ground_range-returns-then-branch t c =
    let p = plain_closed c.args.body.now in let slots = c.args.env.now.items in
    let within : c.loop-k.k < length (range_of c.args.case.now c.args.sort) = omega (arith, c.range_len-k-end.ensures.count, c.loop-k-test.true) in
    let rest = map (grounding_at c.args.case.now slots p) (drop (c.loop-k.k + 1) (range_of c.args.case.now c.args.sort)) in
    let next =
    walked c.args.case.now slots c.bind_next.new.inside.items c.args.sort p c.loop-k.k c.value_in_range.result (plain_ground c.in_ok-member.member)
    within c.value_in_range.ensures c.bind_next.ensures.items c.in_ok-member.ensures in
    let decided = rw c.if-branch.true at (c.in_ok-keep.ensures rest) in
    c.decider.ensures ∙
    sym (c.loop-k.invariant.all ∙ ap (λ todo. whole_of c.args.operator (map plain_ground c.loop-k.kept.items ++ todo)) next ∙ decided)

pub ground_range-loop-k-preserved : goal.ground_range-loop-k-preserved
ground_range-loop-k-preserved t c =
    let p = plain_closed c.args.body.now in let slots = c.args.env.now.items in
    let within : c.loop-k.k < length (range_of c.args.case.now c.args.sort) = omega (arith, c.range_len-k-end.ensures.count, c.loop-k-test.true) in
    let rest = map (grounding_at c.args.case.now slots p) (drop (c.loop-k.k + 1) (range_of c.args.case.now c.args.sort)) in
    let next =
    walked c.args.case.now slots c.bind_next.new.inside.items c.args.sort p c.loop-k.k c.value_in_range.result (plain_ground c.in_ok-member.member)
    within c.value_in_range.ensures c.bind_next.ensures.items c.in_ok-member.ensures in
    let goes_on = rw c.if-branch.false at (c.in_ok-keep.ensures rest) in
    record {
      begins = c.bind_next.ensures.begins;
      all = c.loop-k.invariant.all ∙ ap (λ todo. whole_of c.args.operator (map plain_ground c.loop-k.kept.items ++ todo)) next ∙ goes_on;
    }
