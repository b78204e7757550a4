use Rattle.std.proofs.Common.{◌≡◌, ◌<◌, ◌+◌, ◌-◌, length, sym, ◌∙◌, arith}
use Rattle.pc_ground.specs.Stages.{plain_axioms}
use Rattle.lifted_facts.specs.PlainFacts.{plain_fact, root}
use Rattle.lifter.{specs.Trees.{fact_tree}, proofs.{PartWays.{true_part, last_found}, LiftedRoots.{none_behind, axiom_said}}}
use Rattle.lifter.proofs.roots.last_axiom.Goals as goal

pub loop-k-init : goal.loop-k-init
loop-k-init c =
    let axioms = c.args.axioms.now in
    none_behind c.args.case.now axioms (length axioms - 0) (omega arith)

pub loop-k-preserved : goal.loop-k-preserved
loop-k-preserved c =
    let axioms = c.args.axioms.now in
    let at = length axioms - 1 - c.loop-k.k in
    let step : at + 1 ≡ length axioms - c.loop-k.k = omega (arith, c.loop-k-test.true) in
    let here : at ≡ length axioms - (c.loop-k.k + 1) = omega (arith, c.loop-k-test.true) in
    let f = plain_fact c.axiom_fact-fact.result in
    rw (sym here)
    (true_part (fact_tree c.args.case.now) (root (plain_axioms axioms)) at (length axioms - c.loop-k.k) f
    (axiom_said axioms at c.index-axioms-at.result f (omega (arith, c.loop-k-test.true)) c.index-axioms-at.is c.axiom_fact-fact.ensures.is)
    step c.loop-k.invariant c.requires (λ e. c.in_default.not-Open (c.kind_of_fact.ensures ∙ e)))

pub returns-in-Open : goal.returns-in-Open
returns-in-Open c =
    let axioms = c.args.axioms.now in
    let at = length axioms - 1 - c.loop-k.k in
    let step : at + 1 ≡ length axioms - c.loop-k.k = omega (arith, c.loop-k-test.true) in
    let f = plain_fact c.axiom_fact-fact.result in
    let within : at < length axioms = omega (arith, c.loop-k-test.true) in
    let found = last_found (fact_tree c.args.case.now) (root (plain_axioms axioms)) at (length axioms - c.loop-k.k) f
    (axiom_said axioms at c.index-axioms-at.result f within c.index-axioms-at.is c.axiom_fact-fact.ensures.is)
    step c.loop-k.invariant c.requires (sym c.kind_of_fact.ensures ∙ c.in-Open.is) in
    record { within = within; rest = found.0; up_to = found.1 }

pub kind_of_fact-requires : goal.kind_of_fact-requires
kind_of_fact-requires c = c.axiom_fact-fact.ensures.proper c.args.case.now
