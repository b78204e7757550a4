use Rattle.ask_command.proofs.MoreParts.{within_copies, named_copies}
use Rattle.ask_command.proofs.copies.copy_parts.Goals as goal

pub invariant_of-result : goal.invariant_of-result
invariant_of-result c =
    let front = c.args.front.now in record {
      named = named_copies front.stages c.in_ok-stages.stages c.in_ok-stages.ensures front.named;
      within =
          within_copies front.stages c.in_ok-stages.stages front.axioms c.in_ok-axioms.axioms c.in_ok-stages.ensures c.in_ok-axioms.ensures front.within;
    }
