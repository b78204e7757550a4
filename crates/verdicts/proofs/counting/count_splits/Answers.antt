use Rattle.std.proofs.Common.{◌∙◌, ◌+◌, ap, arith}
use Rattle.refutation.specs.Steps.{plain_step}
use Rattle.verdicts.proofs.StepCounts.{split_more}
use Rattle.verdicts.proofs.counting.count_splits.Goals as goal

pub loop-k-preserved : goal.loop-k-preserved
loop-k-preserved c =
    let before = c.loop-k.invariant in
    let most = before.1 in
    let one = c.splits_in-splits.ensures.bound in (
      ap (λ n. c.loop-k.splits + n) c.splits_in-splits.ensures.count ∙
          split_more c.args.steps.now c.loop-k.k c.loop-k.splits (plain_step c.step.result.now) c.step.ensures before.0,
      omega (arith, most, one),
    )
