use Rattle.std.{proofs.Common.{◌∙◌, ap}, specs.Fmt.{decimal}}
use Rattle.pc_common.proofs.Rooms.{puts_text}
use Rattle.sweep_command.{specs.Texts.{observables, unobservables}, proofs.SweepTexts.{counts_of}}
use Rattle.sweep_command.proofs.report.put_counts.Goals as goal

pub returns : goal.returns
returns g c =
    let answers = c.args.answers.now in
    puts_text _ (counts_of c.as_bytes.result.now c.as_bytes-2.result.now (observables answers) (unobservables answers)
    (c.as_bytes.ensures.value ∙ c.format.ensures.text ∙ ap decimal c.observable_rows.ensures)
    (c.as_bytes-2.ensures.value ∙ c.format-2.ensures.text ∙ ap decimal c.unobservable_rows.ensures)) c.put_all.ensures
