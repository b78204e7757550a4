use Rattle.std.proofs.Common.{◌∙◌}
use Rattle.pc_common.proofs.Rooms.{puts_text}
use Rattle.cert_check.specs.Verdicts.{plain_verdict}
use Rattle.gen_command.proofs.SixLines.{six_lines}
use Rattle.gen_command.proofs.report.put_report.Goals as goal

pub returns : goal.returns
returns g c =
    let r = c.args.report.now in
    puts_text _ (six_lines c.as_bytes.result.now c.verdict_line.result.now c.as_bytes-2.result.now c.as_bytes-3.result.now c.as_bytes-4.result.now
    r.cores r.nodes r.splits r.leaves (plain_verdict r.verdict) (c.as_bytes.ensures.value ∙ c.format.ensures.text) c.verdict_line.ensures
    (c.as_bytes-2.ensures.value ∙ c.format-2.ensures.text) (c.as_bytes-3.ensures.value ∙ c.format-3.ensures.text)
    (c.as_bytes-4.ensures.value ∙ c.format-4.ensures.text)) c.put_all.ensures
