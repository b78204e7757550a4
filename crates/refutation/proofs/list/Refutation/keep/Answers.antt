use Rattle.std.proofs.Common.{arith}
use Rattle.refutation.proofs.KeptSteps.{all_kept}
use Rattle.refutation.proofs.list.Refutation.keep.Goals as goal

pub returns : goal.returns
returns c = all_kept c.args.stays.now c.loop-flag.flag-index c.loop-flag.short _ _ (omega (arith, c.loop-flag-test.false)) c.loop-flag.invariant.steps
