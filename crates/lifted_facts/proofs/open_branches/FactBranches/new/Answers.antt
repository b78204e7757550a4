use Rattle.lifted_facts.proofs.KeptFacts.{kept_new}
use Rattle.lifted_facts.proofs.open_branches.FactBranches.new.Goals as goal

pub invariant_of-result : goal.invariant_of-result
invariant_of-result c = record {
  kept = kept_new c.args.case.now c.in_ok-axiom_facts.field-0.items c.new.result.items (c.in_ok-axiom_facts.ensures.proper c.args.case.now) c.new.ensures.items;
}
