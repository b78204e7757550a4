use Rattle.pc_syntax.specs.Closed.{plain_closed}
use Rattle.ask_command.proofs.MoreParts.{front_is}
use Rattle.ask_command.proofs.fronts.front_more.Goals as goal

pub returns : goal.returns
returns g c =
    let more = c.in_ok-more.ensures in
    front_is c.args.parts.now c.in_ok-more.more (plain_closed c.args.last.body) c.front_of.result more.case more.stages more.axioms
    c.front_of.ensures.case c.front_of.ensures.stages c.front_of.ensures.axioms
