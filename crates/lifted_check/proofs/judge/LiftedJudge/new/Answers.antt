use Rattle.std.proofs.Common.{refl}
use Rattle.lifted_check.proofs.judge.LiftedJudge.new.Goals as goal

pub returns-clause-stands : goal.returns-clause-stands
returns-clause-stands c = (c.ops-ops.ensures.kept, refl)
