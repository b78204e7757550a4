use Rattle.std.proofs.Common.{IfOk, subst}
use Rattle.pc_common.specs.Case.{Case}
use Rattle.pc_ground.specs.Stages.{plain_axioms}
use Rattle.sweep_command.specs.Sweeps.{IsAnswerTo}
use Rattle.sweep_command.proofs.sweeping.row_answer.Goals as goal

pub returns : goal.returns
returns c =
    let P : Case → Type 0 = λ d. IfOk c.is_observable.result (IsAnswerTo (plain_axioms c.args.axioms.now) d) in
    subst P c.in_ok-case.ensures c.is_observable.ensures
