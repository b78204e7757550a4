use Rattle.std.proofs.{Common.{◌≡◌, ◌≤◌, ◌+◌, ◌-◌, ℕ, length, sym, ◌∙◌, ap, subst, arith}, lemmas.Option.{slice_get_within}}
use Rattle.pc_ground.specs.Tree.{always}
use Rattle.lifted_facts.specs.PlainFacts.{plain_fact}
use Rattle.lifter.specs.{Trees.{fact_tree}, declared.kind.FactKind.TheVariants.{True, Open}, Kinds.{kind_of}, PartLists.{parts}}
use Rattle.lifter.proofs.PartWays.{rest_of, rest_end, true_part, last_found}
use Rattle.lifter.proofs.fact_kind.last_open.Goals as goal

pub loop-k-init : goal.loop-k-init
loop-k-init c =
    let case = c.args.case.now in
    let ps = parts case (plain_fact c.args.fact.now) in
    let past : length ps ≤ c.part_count-count.result - 0 = omega (arith, c.part_count-count.ensures) in
    rest_end (fact_tree case) ps (c.part_count-count.result - 0) past

pub loop-k-preserved : goal.loop-k-preserved
loop-k-preserved c =
    let case = c.args.case.now in
    let ps = parts case (plain_fact c.args.fact.now) in
    let count = c.part_count-count.result in
    let at = count - 1 - c.loop-k.k in
    let step : at + 1 ≡ count - c.loop-k.k = omega (arith, c.loop-k-test.true) in
    let here : at ≡ count - (c.loop-k.k + 1) = omega (arith, c.loop-k-test.true) in
    rw (sym here)
    (true_part (fact_tree case) ps at (count - c.loop-k.k) (plain_fact c.part_at-named.result.1) c.part_at-named.ensures.member
    step c.loop-k.invariant c.requires.kind
    (λ e. c.in_default.not-Open (c.kind_of_fact.ensures ∙ e)))

pub returns-in-Open : goal.returns-in-Open
returns-in-Open c =
    let case = c.args.case.now in
    let ps = parts case (plain_fact c.args.fact.now) in
    let count = c.part_count-count.result in
    let at = count - 1 - c.loop-k.k in
    let step : at + 1 ≡ count - c.loop-k.k = omega (arith, c.loop-k-test.true) in
    let found = last_found (fact_tree case) ps at (count - c.loop-k.k) (plain_fact c.part_at-named.result.1)
    c.part_at-named.ensures.member step c.loop-k.invariant c.requires.kind
    (sym c.kind_of_fact.ensures ∙ c.in-Open.is) in
    record { within = slice_get_within ps at (plain_fact c.part_at-named.result.1) c.part_at-named.ensures.member; rest = found.0; up_to = found.1 }

pub unreachable-requires : goal.unreachable-requires
unreachable-requires c =
    let case = c.args.case.now in
    let ps = parts case (plain_fact c.args.fact.now) in
    let none : c.part_count-count.result - c.loop-k.k ≡ 0 = omega (arith, c.loop-k-test.false) in
    let P : ℕ → Type 0 = λ n. rest_of (fact_tree case) ps n ≡ always in
    let clash : Open ≡ True = sym c.requires.kind ∙ ap kind_of (subst P none c.loop-k.invariant) in
    cc
