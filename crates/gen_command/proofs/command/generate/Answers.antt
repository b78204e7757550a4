use Rattle.gen_command.proofs.{ReportedRings.{ring_reported}, GenOutcomes.{report_outcome, ending_outcome, memory_outcome}}
use Rattle.gen_command.proofs.command.generate.Goals as goal

pub returns-in-Err : goal.returns-in-Err
returns-in-Err c = ending_outcome c.args.n c.in-Err.ending c.in-Err.ensures

pub returns-in-Ok-verdict_on : goal.returns-in-Ok-verdict_on
returns-in-Ok-verdict_on c =
    report_outcome c.args.n c.report_of-report.result
    (ring_reported c.args.n c.in-Ok.front c.in-Ok.ensures c.in-Ok-verdict_on.verdict c.in-Ok-verdict_on.ensures.version c.in-Ok-verdict_on.ensures.verdict
    c.report_of-report.result c.report_of-report.ensures)

pub returns-in-Err-verdict_on : goal.returns-in-Err-verdict_on
returns-in-Err-verdict_on c = memory_outcome c.args.n
