use Rattle.std.{proofs.Common.{◌∙◌, ap, List, ◌++◌, ◌∷◌, []}, specs.Prelude.{is_ok, if◌then◌else◌}}
use Rattle.lifted_facts.{specs.declared.fact.Fact.{Fact}, proofs.KeptFacts.{kept_next, opened_later}}
use Rattle.lifted_facts.proofs.open_branches.FactBranches.open_next.Goals as goal

pub invariant_of-self-in-Some : goal.invariant_of-self-in-Some
invariant_of-self-in-Some c =
    let me = c.args.self.now in
    record {
      kept = kept_next me.case.now me.facts.items c.push.new.self.items me.later.items c.pop.new.self.items c.in-Some.next (is_ok c.push.result) me.kept
          c.in-Some.ensures.items
          (c.push.ensures.items ∙ ap (λ (fs : List Fact). if is_ok c.push.result then fs ++ c.in-Some.next.fact ∷ [] else fs) c.truncate.ensures.items);
    }

pub returns-in_ok-push-in-Some-clause-opens : goal.returns-in_ok-push-in-Some-clause-opens
returns-in_ok-push-in-Some-clause-opens c =
    let me = c.args.self.now in
    opened_later me.case.now me.is_open me.facts.items c.push.new.self.items me.later.items c.pop.new.self.items c.in-Some.next me.kept c.in-Some.ensures.items
    (c.in_ok-push-in-Some.ensures.items ∙ ap (λ (fs : List Fact). fs ++ c.in-Some.next.fact ∷ []) c.truncate.ensures.items)
