use Rattle.std.proofs.Common.{true, false}
use Rattle.pc_common.proofs.Bools.{clash}
use Rattle.lifted_check.proofs.Texts.{steps_ended, end_stuck}
use Rattle.lifted_check.proofs.next.end_steps.Goals as goal

pub returns-then-is_closed : goal.returns-then-is_closed
returns-then-is_closed c = λ q lines kept so_far. steps_ended q c.args.branches.now lines so_far (c.is_closed.ensures.0 c.if-is_closed.true)

pub returns-else-is_closed : goal.returns-else-is_closed
returns-else-is_closed c = λ q lines kept so_far.
    end_stuck q kept c.args.branches.now lines so_far (λ none. clash (c.is_closed.ensures.1 none) c.if-is_closed.false)
