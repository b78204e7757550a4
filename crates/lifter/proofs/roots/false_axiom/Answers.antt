use Rattle.std.proofs.Common.{◌≤◌, length, sym, ◌∙◌, arith}
use Rattle.pc_ground.specs.Stages.{plain_axioms}
use Rattle.lifted_facts.specs.PlainFacts.{plain_fact, root}
use Rattle.lifter.{specs.Trees.{fact_tree}, proofs.{PartWays.{false_later, end_not_false}, LiftedRoots.{as_many, axiom_said}}}
use Rattle.lifter.proofs.roots.false_axiom.Goals as goal

pub returns-in-False : goal.returns-in-False
returns-in-False c =
    let axioms = c.args.axioms.now in
    record {
      is = axiom_said axioms c.loop-k.k c.index-axioms-k.result (plain_fact c.axiom_fact-fact.result) c.loop-k-test.true
          c.index-axioms-k.is c.axiom_fact-fact.ensures.is;
      kind = sym c.kind_of_fact.ensures ∙ c.in-False.is;
      proper = c.axiom_fact-fact.ensures.proper c.args.case.now;
    }

pub loop-k-preserved : goal.loop-k-preserved
loop-k-preserved c =
    let axioms = c.args.axioms.now in
    false_later (fact_tree c.args.case.now) (root (plain_axioms axioms)) c.loop-k.k (plain_fact c.axiom_fact-fact.result)
    (axiom_said axioms c.loop-k.k c.index-axioms-k.result (plain_fact c.axiom_fact-fact.result) c.loop-k-test.true
    c.index-axioms-k.is c.axiom_fact-fact.ensures.is)
    c.loop-k.invariant (λ e. c.in_default.not-False (c.kind_of_fact.ensures ∙ e))

pub unreachable-requires : goal.unreachable-requires
unreachable-requires c =
    let axioms = c.args.axioms.now in
    let past : length (root (plain_axioms axioms)) ≤ c.loop-k.k = omega (arith, as_many axioms, c.loop-k-test.false) in
    end_not_false (fact_tree c.args.case.now) (root (plain_axioms axioms)) c.loop-k.k past c.loop-k.invariant

pub kind_of_fact-requires : goal.kind_of_fact-requires
kind_of_fact-requires c = c.axiom_fact-fact.ensures.proper c.args.case.now
