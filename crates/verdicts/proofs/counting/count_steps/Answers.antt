use Rattle.std.proofs.Common.{◌∙◌, ◌-◌, ap}
use Rattle.verdicts.proofs.StepCounts.{leaves_left}
use Rattle.verdicts.proofs.counting.count_steps.Goals as goal

pub returns-clause-leaves : goal.returns-clause-leaves
returns-clause-leaves c =
    ap (λ n. n - c.count_splits-splits.result) c.len.ensures.count
    ∙ leaves_left c.args.steps.now c.count_splits-splits.result c.count_splits-splits.ensures.count
