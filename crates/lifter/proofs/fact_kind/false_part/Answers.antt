use Rattle.std.proofs.Common.{◌≤◌, length, ◌∙◌, arith}
use Rattle.lifted_facts.specs.PlainFacts.{plain_fact}
use Rattle.lifter.{specs.{Trees.{fact_tree}, PartLists.{parts}}, proofs.PartWays.{false_later, end_not_false}}
use Rattle.lifter.proofs.fact_kind.false_part.Goals as goal

pub loop-k-preserved : goal.loop-k-preserved
loop-k-preserved c =
    let case = c.args.case.now in
    false_later (fact_tree case) (parts case (plain_fact c.args.fact.now)) c.loop-k.k (plain_fact c.part_at-named.result.1)
    c.part_at-named.ensures.member c.loop-k.invariant
    (λ e. c.in_default.not-False (c.kind_of_fact.ensures ∙ e))

pub unreachable-requires : goal.unreachable-requires
unreachable-requires c =
    let case = c.args.case.now in
    let ps = parts case (plain_fact c.args.fact.now) in
    let past : length ps ≤ c.loop-k.k = omega (arith, c.part_count-k-end.ensures, c.loop-k-test.false) in
    end_not_false (fact_tree case) ps c.loop-k.k past c.loop-k.invariant
