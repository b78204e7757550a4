use Rattle.verdicts.proofs.FrontVerdicts.{verdict_is}
use Rattle.verdicts.proofs.verdict.short_verdict_on.Goals as goal

pub returns-clause-verdict : goal.returns-clause-verdict
returns-clause-verdict c = λ m k is. verdict_is m k c.args.front is c.args.version c.in_ok-short.short c.in_ok-short.ensures
