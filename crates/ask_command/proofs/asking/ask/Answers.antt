use Rattle.std.proofs.lemmas.Result.{IfOk-weaker}
use Rattle.pc_syntax.specs.Closed.{plain_closed}
use Rattle.pc_ground.specs.Stages.{plain_axioms}
use Rattle.ask_command.{specs.Asking.{IsAsked}, proofs.MoreParts.{within_stages, asked_same}}
use Rattle.ask_command.proofs.asking.ask.Goals as goal

pub ask_parts-requires : goal.ask_parts-requires
ask_parts-requires g c =
    within_stages c.args.front.now.stages c.in_ok-parts.parts.stages (plain_closed c.args.formula.now.body) c.in_ok-parts.ensures.stages c.requires

pub returns : goal.returns
returns g c =
    let front = c.args.front.now in
    let parts = c.in_ok-parts.parts in
    let same = c.in_ok-parts.ensures in
    let p = plain_closed c.args.formula.now.body in
    IfOk-weaker c.ask_parts.result (IsAsked parts.case parts.stages (plain_axioms parts.axioms) p)
    (IsAsked front.case front.stages (plain_axioms front.axioms) p) (asked_same front parts p same.case same.stages same.axioms) c.ask_parts.ensures
