use Rattle.std.proofs.{Common.{◌≡◌, ◌<◌, ◌+◌, ℕ, refl, sym, subst, ◌∙◌, ap, arith}, lemmas.Result.{on_ok_weaker}}
use Rattle.pc_ground.specs.{Rows.{IsPart}, Tree.{Tree, leaf}, Keys.{literal_node}}
use Rattle.pc_common.specs.World.{Node}
use Rattle.lifted_facts.specs.{PlainFacts.{PlainFact, plain_fact}, Lifted.{HasFact}}
use Rattle.lifter.specs.{Trees.{fact_tree}, Kinds.{kind_of}, PartLists.{parts, facts_from, parts_from}, States.{branch_of}}
use Rattle.lifter.proofs.{SideLaws.{sides_rank, part_rank}, StateMoves.{moves_same, moves_then, moved_fact, gained_fact}}
use Rattle.lifter.proofs.TakenParts.{stands_here, taken_open, passed_over, true_here, taken_start, taken_more, taken_all, last_is, IsTakenTo}
use Rattle.lifter.proofs.UnfoldedFacts.{both_ok, literal_tree, unfolded_by, first_lost, second_lost, both_stay, both_told, over_parts}
use Rattle.lifter.proofs.unfolding.+unfold.Goals as goal

-- the literal of a fact
pub unfold-mark_literal-requires : goal.unfold-mark_literal-requires
unfold-mark_literal-requires t c =
    let l = literal_node c.in-Some.literal in let is = c.in-Some.ensures in
    let P : PlainFact → Type 0 = λ f. HasFact (branch_of c.args.state.now) c.args.number f in
    let Q : Tree Node → Type 0 = λ u. IsPart c.args.tree.now c.args.at u in
    record { has = subst P is c.requires.has; stands = subst Q (ap (fact_tree c.args.case.now) is ∙ literal_tree c.args.case.now l) c.requires.stands }

pub unfold-returns-in-Some : goal.unfold-returns-in-Some
unfold-returns-in-Some t c =
    let case = c.args.case.now in let l = literal_node c.in-Some.literal in
    let same = ap (fact_tree case) c.in-Some.ensures ∙ literal_tree case l in
    on_ok_weaker c.mark_literal.result
    (λ h. unfolded_by case c.args.tree.now c.args.state.now c.args.state.now c.mark_literal.new.state (leaf l)
    (fact_tree case (plain_fact c.args.fact.now)) c.args.at
    (moves_same case c.args.tree.now c.args.state.now) same h) c.mark_literal.ensures

-- a fact with two sides, and one that is And over its parts
pub unfold-unfold_all-requires : goal.unfold-unfold_all-requires
unfold-unfold_all-requires t c =
    let f = plain_fact c.args.fact.now in
    let all = over_parts c.args.case.now f c.in-None.ensures (sym c.in-None-sides.ensures.is) c.requires.kind in
    let P : Tree Node → Type 0 = λ u. IsPart c.args.tree.now c.args.at u in
    (omega (arith, c.decreases), (c.requires.proper, (c.requires.has, (ap kind_of (sym all) ∙ c.requires.kind, subst P all c.requires.stands))))

pub unfold-returns-in-None-sides : goal.unfold-returns-in-None-sides
unfold-returns-in-None-sides t c =
    let case = c.args.case.now in let f = plain_fact c.args.fact.now in
    let all = over_parts case f c.in-None.ensures (sym c.in-None-sides.ensures.is) c.requires.kind in
    on_ok_weaker c.unfold_all.result
    (λ h. unfolded_by case c.args.tree.now c.args.state.now c.args.state.now c.unfold_all.new.state (parts_from case f 0) (fact_tree case f) c.args.at
    (moves_same case c.args.tree.now c.args.state.now) all h) c.unfold_all.ensures

-- both sides stay
pub unfold_either-mark-requires : goal.unfold_either-mark-requires
unfold_either-mark-requires t c =
    let case = c.args.case.now in let rows = c.args.tree.now in let f = plain_fact c.args.fact.now in
    let g = plain_fact c.args.first.now in let h = plain_fact c.args.second.now in (
      rows,
      (
        refl,
        f,
        c.requires.has,
        both_stay case rows f g h c.requires.are c.requires.kind c.args.at (sym c.kind_of_fact.ensures ∙ c.in-Open.is)
            (sym c.kind_of_fact-in-Open.ensures ∙ c.in-Open-kind_of_fact.is) c.requires.stands,
      ),
    )

pub unfold_either-returns-in-Open-kind_of_fact : goal.unfold_either-returns-in-Open-kind_of_fact
unfold_either-returns-in-Open-kind_of_fact t c =
    let case = c.args.case.now in let rows = c.args.tree.now in let s = c.args.state.now in
    let f = plain_fact c.args.fact.now in let g = plain_fact c.args.first.now in let h = plain_fact c.args.second.now in
    let one = sym c.kind_of_fact.ensures ∙ c.in-Open.is in
    let two = sym c.kind_of_fact-in-Open.ensures ∙ c.in-Open-kind_of_fact.is in
    both_ok c.mark.result
    (λ moves has. both_told case rows f g h c.requires.are c.requires.kind s c.mark.new.state c.args.at one two c.requires.stands
    (moves rows (refl, f, c.requires.has, both_stay case rows f g h c.requires.are c.requires.kind c.args.at one two c.requires.stands)) has)
    c.mark.ensures.moves c.mark.ensures.has

-- only the second side is False
pub unfold_either-lose_second-requires : goal.unfold_either-lose_second-requires
unfold_either-lose_second-requires t c =
    let case = c.args.case.now in let rows = c.args.tree.now in let f = plain_fact c.args.fact.now in
    let g = plain_fact c.args.first.now in let h = plain_fact c.args.second.now in
    let open_first = sym c.kind_of_fact.ensures ∙ c.in-Open.is in
    let lost = second_lost case rows f g h c.requires.are c.requires.kind open_first
    (λ e. c.in_default-kind_of_fact.not-Open (c.kind_of_fact-in-Open.ensures ∙ e)) in
    record { first_proper = c.requires.first_proper; second_proper = c.requires.second_proper; are = (f, c.requires.has, c.requires.are); kind = lost.0 }

pub unfold_either-unfold-requires : goal.unfold_either-unfold-requires
unfold_either-unfold-requires t c =
    let case = c.args.case.now in let rows = c.args.tree.now in let s = c.args.state.now in
    let f = plain_fact c.args.fact.now in let g = plain_fact c.args.first.now in let h = plain_fact c.args.second.now in
    let open_first = sym c.kind_of_fact.ensures ∙ c.in-Open.is in
    let lost = second_lost case rows f g h c.requires.are c.requires.kind open_first
    (λ e. c.in_default-kind_of_fact.not-Open (c.kind_of_fact-in-Open.ensures ∙ e)) in
    let P : Tree Node → Type 0 = λ u. IsPart rows c.args.at u in
    let low = (sides_rank case f g h c.requires.are).0 in
    let gained = c.in_ok-next-in_default-kind_of_fact.ensures rows in (
      omega (arith, c.decreases, low),
      (
        c.requires.first_proper,
        (gained_fact case rows s c.lose_second.new.state c.in_ok-next-in_default-kind_of_fact.next g gained, (open_first, subst P lost.1 c.requires.stands)),
      ),
    )

pub unfold_either-returns-in_ok-next-in_default-kind_of_fact : goal.unfold_either-returns-in_ok-next-in_default-kind_of_fact
unfold_either-returns-in_ok-next-in_default-kind_of_fact t c =
    let case = c.args.case.now in let rows = c.args.tree.now in let s = c.args.state.now in
    let f = plain_fact c.args.fact.now in let g = plain_fact c.args.first.now in let h = plain_fact c.args.second.now in
    let open_first = sym c.kind_of_fact.ensures ∙ c.in-Open.is in
    let lost = second_lost case rows f g h c.requires.are c.requires.kind open_first
    (λ e. c.in_default-kind_of_fact.not-Open (c.kind_of_fact-in-Open.ensures ∙ e)) in
    on_ok_weaker c.unfold.result
    (λ u. unfolded_by case rows s c.lose_second.new.state c.unfold.new.state (fact_tree case g) (fact_tree case f) c.args.at
    (c.in_ok-next-in_default-kind_of_fact.ensures rows).moves lost.1 u) c.unfold.ensures

-- the first side is False
pub unfold_either-lose_first-requires : goal.unfold_either-lose_first-requires
unfold_either-lose_first-requires t c =
    let rows = c.args.tree.now in let f = plain_fact c.args.fact.now in let g = plain_fact c.args.first.now in
    let h = plain_fact c.args.second.now in
    let lost = first_lost c.args.case.now rows f g h c.requires.are c.requires.kind (λ e. c.in_default.not-Open (c.kind_of_fact.ensures ∙ e)) in
    record { first_proper = c.requires.first_proper; second_proper = c.requires.second_proper; are = (f, c.requires.has, c.requires.are); kind = lost.0 }

pub unfold_either-unfold-requires-in_default : goal.unfold_either-unfold-requires-in_default
unfold_either-unfold-requires-in_default t c =
    let case = c.args.case.now in let rows = c.args.tree.now in let s = c.args.state.now in
    let f = plain_fact c.args.fact.now in let g = plain_fact c.args.first.now in let h = plain_fact c.args.second.now in
    let lost = first_lost case rows f g h c.requires.are c.requires.kind (λ e. c.in_default.not-Open (c.kind_of_fact.ensures ∙ e)) in
    let P : Tree Node → Type 0 = λ u. IsPart rows c.args.at u in
    let low = (sides_rank case f g h c.requires.are).1 in
    let gained = c.in_ok-next-in_default.ensures rows in (
      omega (arith, c.decreases, low),
      (
        c.requires.second_proper,
        (gained_fact case rows s c.lose_first.new.state c.in_ok-next-in_default.next h gained, (lost.1, subst P lost.2 c.requires.stands)),
      ),
    )

pub unfold_either-returns-in_ok-next-in_default : goal.unfold_either-returns-in_ok-next-in_default
unfold_either-returns-in_ok-next-in_default t c =
    let case = c.args.case.now in let rows = c.args.tree.now in let s = c.args.state.now in
    let f = plain_fact c.args.fact.now in let g = plain_fact c.args.first.now in let h = plain_fact c.args.second.now in
    let lost = first_lost case rows f g h c.requires.are c.requires.kind (λ e. c.in_default.not-Open (c.kind_of_fact.ensures ∙ e)) in
    on_ok_weaker c.unfold-in_default.result
    (λ u. unfolded_by case rows s c.lose_first.new.state c.unfold-in_default.new.state (fact_tree case h) (fact_tree case f) c.args.at
    (c.in_ok-next-in_default.ensures rows).moves lost.2 u)
    c.unfold-in_default.ensures

-- the parts before the last one that is no constant
pub unfold_all-loop-k-init : goal.unfold_all-loop-k-init
unfold_all-loop-k-init t c =
    taken_start c.args.case.now c.args.tree.now (parts c.args.case.now (plain_fact c.args.fact.now)) c.args.at c.args.state.now c.requires.stands

pub unfold_all-loop-k-preserved : goal.unfold_all-loop-k-preserved
unfold_all-loop-k-preserved t c =
    taken_more c.args.case.now c.args.tree.now (parts c.args.case.now (plain_fact c.args.fact.now)) c.loop-k.k c.args.at c.loop-k.at c.in_ok-at.at
    c.args.state.now c.loop-k.state
    c.unfold_next.new.state c.loop-k.invariant c.in_ok-at.ensures

pub unfold_all-unfold_next-requires : goal.unfold_all-unfold_next-requires
unfold_all-unfold_next-requires t c =
    let case = c.args.case.now in let f = plain_fact c.args.fact.now in let k = c.loop-k.k in
    let inv = c.loop-k.invariant in
    let low : k < c.last_open-last.result = omega (arith, c.loop-k-test.true) in (
      omega (arith, c.decreases),
      (
        c.requires.proper,
        (
          moved_fact case c.args.tree.now c.args.state.now c.loop-k.state c.args.number f inv.moves c.requires.has,
          (
            omega (arith, low, c.last_open-last.ensures.within),
            (c.last_open-last.ensures.up_to k (omega (arith, low)), (c.last_open-last.ensures.up_to (k + 1) (omega (arith, low)), inv.stands)),
          ),
        ),
      ),
    )

pub unfold_all-unfold_last-requires : goal.unfold_all-unfold_last-requires
unfold_all-unfold_last-requires t c =
    let case = c.args.case.now in let f = plain_fact c.args.fact.now in let last = c.last_open-last.result in
    let inv = c.loop-k.invariant in
    let end : c.loop-k.k ≡ last = omega (arith, c.loop-k-test.false, c.loop-k.auto) in
    let S : ℕ → Type 0 = λ n. IsPart c.args.tree.now c.loop-k.at (parts_from case f n) in (
      omega (arith, c.decreases),
      (
        c.requires.proper,
        (
          moved_fact case c.args.tree.now c.args.state.now c.loop-k.state c.args.number f inv.moves c.requires.has,
          (c.last_open-last.ensures.within, (c.last_open-last.ensures.up_to last (omega arith), (c.last_open-last.ensures.rest, subst S end inv.stands))),
        ),
      ),
    )

pub unfold_all-returns : goal.unfold_all-returns
unfold_all-returns t c =
    let case = c.args.case.now in let rows = c.args.tree.now in
    let fs = parts case (plain_fact c.args.fact.now) in
    let last = c.last_open-last.result in let old = c.args.state.now in let mid = c.loop-k.state in
    let end : c.loop-k.k ≡ last = omega (arith, c.loop-k-test.false, c.loop-k.auto) in
    let N : ℕ → Type 0 = λ n. IsTakenTo case rows fs n c.args.at c.loop-k.at old mid in
    on_ok_weaker c.unfold_last.result (λ h. taken_all case rows fs last c.args.at c.loop-k.at old mid c.unfold_last.new.state
    (subst N end c.loop-k.invariant) h) c.unfold_last.ensures

-- one part
pub unfold_next-right_of-right-requires : goal.unfold_next-right_of-right-requires
unfold_next-right_of-right-requires t c =
    let case = c.args.case.now in let f = plain_fact c.args.fact.now in
    let fs = parts case f in
    let g = plain_fact c.part_at-named.result.1 in
    let kind = sym c.kind_of_fact.ensures ∙ c.in-Open.is in
    let here = (stands_here case c.args.tree.now fs c.args.k c.args.at g c.part_at-named.ensures.member kind c.requires.rest c.requires.stands).0 in
    (fact_tree case g, here)

pub unfold_next-derive-requires : goal.unfold_next-derive-requires
unfold_next-derive-requires t c =
    record { proper = c.part_at-named.ensures.proper; is = (plain_fact c.args.fact.now, c.requires.has, c.part_at-named.ensures.is) }

pub unfold_next-unfold-requires : goal.unfold_next-unfold-requires
unfold_next-unfold-requires t c =
    let case = c.args.case.now in let rows = c.args.tree.now in let s = c.args.state.now in
    let f = plain_fact c.args.fact.now in
    let fs = parts case f in
    let g = plain_fact c.part_at-named.result.1 in let there = c.part_at-named.ensures.member in
    let kind = sym c.kind_of_fact.ensures ∙ c.in-Open.is in
    let here = (stands_here case rows fs c.args.k c.args.at g there kind c.requires.rest c.requires.stands).0 in
    let low = part_rank case c.part_at-named.result.0 f g c.part_at-named.ensures.is in
    let gained = c.in_ok-next-in-Open.ensures rows in (
      omega (arith, c.decreases, low),
      (
        c.part_at-named.ensures.proper,
        (gained_fact case rows s c.derive.new.state c.in_ok-next-in-Open.next g gained, (kind, here)),
      ),
    )

pub unfold_next-returns-in_ok-unfold-in-Open : goal.unfold_next-returns-in_ok-unfold-in-Open
unfold_next-returns-in_ok-unfold-in-Open t c =
    let case = c.args.case.now in let rows = c.args.tree.now in let s = c.args.state.now in
    let f = plain_fact c.args.fact.now in
    let fs = parts case f in
    let g = plain_fact c.part_at-named.result.1 in let there = c.part_at-named.ensures.member in
    let kind = sym c.kind_of_fact.ensures ∙ c.in-Open.is in
    let here = (stands_here case rows fs c.args.k c.args.at g there kind c.requires.rest c.requires.stands).0 in
    let u = c.in_ok-unfold-in-Open.ensures in
    let gained = c.in_ok-next-in-Open.ensures rows in
    taken_open case rows fs c.args.k c.args.at c.right_of-right.result g s c.unfold.new.state there kind c.requires.rest c.requires.stands
    (c.right_of-right.ensures (fact_tree case g) here)
    (moves_then case rows s c.derive.new.state c.unfold.new.state gained.moves u.moves) u.told

pub unfold_next-returns-in_default : goal.unfold_next-returns-in_default
unfold_next-returns-in_default t c =
    let case = c.args.case.now in let rows = c.args.tree.now in let f = plain_fact c.args.fact.now in
    let fs = parts case f in
    let g = plain_fact c.part_at-named.result.1 in let there = c.part_at-named.ensures.member in
    let agreed = true_here case rows fs c.args.k g there c.requires.kind (λ e. c.in_default.not-Open (c.kind_of_fact.ensures ∙ e)) in
    passed_over case rows fs c.args.k c.args.at g c.args.state.now there agreed c.requires.stands

-- the last one
pub unfold_last-derive-requires : goal.unfold_last-derive-requires
unfold_last-derive-requires t c =
    record { proper = c.part_at-named.ensures.proper; is = (plain_fact c.args.fact.now, c.requires.has, c.part_at-named.ensures.is) }

pub unfold_last-unfold-requires : goal.unfold_last-unfold-requires
unfold_last-unfold-requires t c =
    let case = c.args.case.now in let rows = c.args.tree.now in let s = c.args.state.now in
    let f = plain_fact c.args.fact.now in
    let fs = parts case f in
    let g = plain_fact c.part_at-named.result.1 in let there = c.part_at-named.ensures.member in
    let only = last_is case rows fs c.args.k g there c.requires.rest in
    let P : Tree Node → Type 0 = λ u. IsPart rows c.args.at u in
    let low = part_rank case c.part_at-named.result.0 f g c.part_at-named.ensures.is in
    let gained = c.in_ok-next.ensures rows in (
      omega (arith, c.decreases, low),
      (
        c.part_at-named.ensures.proper,
        (gained_fact case rows s c.derive.new.state c.in_ok-next.next g gained, (ap kind_of (sym only) ∙ c.requires.kind, subst P only c.requires.stands)),
      ),
    )

pub unfold_last-returns : goal.unfold_last-returns
unfold_last-returns t c =
    let case = c.args.case.now in let rows = c.args.tree.now in let s = c.args.state.now in
    let f = plain_fact c.args.fact.now in
    let fs = parts case f in
    let g = plain_fact c.part_at-named.result.1 in
    let only = last_is case rows fs c.args.k g c.part_at-named.ensures.member c.requires.rest in
    on_ok_weaker c.unfold.result
    (λ u. unfolded_by case rows s c.derive.new.state c.unfold.new.state (fact_tree case g) (facts_from case fs c.args.k) c.args.at
    (c.in_ok-next.ensures rows).moves only u) c.unfold.ensures

pub unfold_next-overflow_add-at : goal.unfold_next-overflow_add-at
unfold_next-overflow_add-at t c =
    let case = c.args.case.now in let f = plain_fact c.args.fact.now in
    let fs = parts case f in
    let g = plain_fact c.part_at-named.result.1 in let there = c.part_at-named.ensures.member in
    let kind = sym c.kind_of_fact.ensures ∙ c.in-Open.is in
    let here = (stands_here case c.args.tree.now fs c.args.k c.args.at g there kind c.requires.rest c.requires.stands).0 in
    omega (arith, c.right_of-right.ensures (fact_tree case g) here)
