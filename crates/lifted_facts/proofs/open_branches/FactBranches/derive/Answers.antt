use Rattle.std.{proofs.Common.{subst, List, [], reverse, map}, specs.Prelude.{is_ok}}
use Rattle.lifted_facts.{specs.{declared.fact.Fact.{Fact}, PlainFacts.{PlainFact, plain_fact}, Lifted.{HasPart}}, proofs.KeptFacts.{kept_push}}
use Rattle.lifted_facts.proofs.OpenFacts.{did_derive, no_derive}
use Rattle.lifted_facts.proofs.open_branches.FactBranches.derive.Goals as goal

pub invariant_of-self : goal.invariant_of-self
invariant_of-self c =
    let me = c.args.self.now in
    record {
      kept = kept_push me.case.now me.facts.items c.push.new.self.items me.later.items c.in-Some.part (is_ok c.push.result)
          me.kept c.in-Some.ensures.proper c.push.ensures.items;
    }

pub returns-in_ok-push-in-Some-clause-advanced : goal.returns-in_ok-push-in-Some-clause-advanced
returns-in_ok-push-in-Some-clause-advanced c =
    let me = c.args.self.now in
    let P : List Fact → Type 0 = λ fs. HasPart me.case.now (map plain_fact fs) c.args.way c.args.number (plain_fact c.in-Some.part) in
    did_derive me.case.now c.args.way c.args.number me.is_open me.facts.items c.push.new.self.items c.in-Some.part (reverse me.later.items) c.requires
    (subst P c.deref.ensures.value c.in-Some.ensures.is) c.in_ok-push-in-Some.ensures.items me.kept.within

pub returns-in-None-clause-advanced : goal.returns-in-None-clause-advanced
returns-in-None-clause-advanced c =
    let me = c.args.self.now in
    let P : List Fact → Type 0 = λ fs. (g : PlainFact) → HasPart me.case.now (map plain_fact fs) c.args.way c.args.number g → ⊥ in
    no_derive me.case.now c.args.way c.args.number me.is_open me.facts.items (reverse me.later.items) [] (subst P c.deref.ensures.value c.in-None.ensures.is)
