use Rattle.command_base.proofs.AnsweredFiles.{ending_outcome, memory_outcome}
use Rattle.verdicts.{specs.Certified.{IsCertified}, proofs.FrontVerdicts.{verdict_writable}}
use Rattle.verdicts.proofs.CheckOutcomes.{verdict_outcome}
use Rattle.verdicts.proofs.command.check.Goals as goal

pub returns-in-Err-clause-outcome : goal.returns-in-Err-clause-outcome
returns-in-Err-clause-outcome g c = ending_outcome (IsCertified c.args.version) c.in-Err.ending c.in-Err.ensures

pub returns-in-Ok-short_verdict_on-clause-outcome : goal.returns-in-Ok-short_verdict_on-clause-outcome
returns-in-Ok-short_verdict_on-clause-outcome g c =
    verdict_outcome {first_fault = g.S.SecondFile.first_fault} c.in-Ok.ensures c.in-Ok-short_verdict_on.verdict c.args.version
    c.in-Ok-short_verdict_on.ensures.version
    (c.in-Ok-short_verdict_on.ensures.verdict c.in-Ok.ensures.m c.in-Ok.ensures.c c.in-Ok.ensures.front_of)

pub returns-in-Ok-short_verdict_on-clause-writable : goal.returns-in-Ok-short_verdict_on-clause-writable
returns-in-Ok-short_verdict_on-clause-writable g c =
    verdict_writable c.in-Ok.ensures.m c.in-Ok.ensures.c c.in-Ok-short_verdict_on.verdict c.in-Ok.ensures.kept
    (c.in-Ok-short_verdict_on.ensures.verdict c.in-Ok.ensures.m c.in-Ok.ensures.c c.in-Ok.ensures.front_of)

pub returns-in-Err-short_verdict_on-clause-outcome : goal.returns-in-Err-short_verdict_on-clause-outcome
returns-in-Err-short_verdict_on-clause-outcome g c = memory_outcome (IsCertified c.args.version) c.in-Ok.ensures
