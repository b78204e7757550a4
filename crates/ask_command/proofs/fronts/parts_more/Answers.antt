use Rattle.ask_command.proofs.MoreParts.{axioms_more, within_all, named_copies}
use Rattle.ask_command.proofs.fronts.parts_more.Goals as goal

pub invariant_of-result : goal.invariant_of-result
invariant_of-result c =
    let parts = c.args.parts.now in record {
      named = named_copies parts.stages c.in_ok-stages.stages c.in_ok-stages.ensures parts.named;
      within =
          within_all parts.stages c.in_ok-stages.stages parts.axioms c.in_ok-axioms.axioms c.push.new.self c.args.last c.in_ok-stages.ensures
          c.in_ok-axioms.ensures c.in_ok-push.ensures parts.within c.requires;
    }

pub returns-clause-axioms : goal.returns-clause-axioms
returns-clause-axioms c =
    axioms_more c.args.parts.now.axioms c.in_ok-axioms.axioms c.push.new.self c.args.last c.in_ok-axioms.ensures c.in_ok-push.ensures
