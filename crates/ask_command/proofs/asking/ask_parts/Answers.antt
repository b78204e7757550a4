use Rattle.std.proofs.Common.{map}
use Rattle.pc_syntax.specs.Closed.{plain_closed, closed_not}
use Rattle.pc_ground.specs.Stages.{plain_stage, plain_axioms, numbers_of}
use Rattle.ask_command.proofs.MoreParts.{found_same, within_same}
use Rattle.ask_command.proofs.asking.ask_parts.Goals as goal

pub found_more-requires : goal.found_more-requires
found_more-requires g c =
    let numbers = numbers_of (map plain_stage c.args.parts.now.stages) in
    within_same numbers (plain_closed c.in_ok-copy.field-0.body) (plain_closed c.args.formula.now.body) c.in_ok-copy.ensures c.requires

pub found_more-requires-2 : goal.found_more-requires-2
found_more-requires-2 g c =
    let numbers = numbers_of (map plain_stage c.args.parts.now.stages) in
    within_same numbers (plain_closed c.in_ok-denial.field-0.body) (closed_not (plain_closed c.args.formula.now.body)) c.in_ok-denial.ensures c.requires

pub returns : goal.returns
returns g c =
    let parts = c.args.parts.now in
    let p = plain_closed c.args.formula.now.body in record {
      added =
          found_same parts.case parts.stages (plain_axioms parts.axioms) (plain_closed c.in_ok-copy.field-0.body) p c.in_ok-added.added c.in_ok-copy.ensures
          c.in_ok-added.ensures;
      against =
          found_same parts.case parts.stages (plain_axioms parts.axioms) (plain_closed c.in_ok-denial.field-0.body) (closed_not p) c.in_ok-against.against
          c.in_ok-denial.ensures c.in_ok-against.ensures;
    }
