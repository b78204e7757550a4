use Rattle.std.proofs.lemmas.Result.{MatchResult-weaker}
use Rattle.command_base.{specs.Inputs.{plain_inputs}, proofs.InputsRead.{bytes_end, ended_unread}}
use Rattle.sweep_command.proofs.PatternFiles.{task_read}
use Rattle.sweep_command.proofs.inputs.read_task.Goals as goal

pub returns-in-Ok : goal.returns-in-Ok
returns-in-Ok g c =
    let both = c.in-Ok.ensures in
    let failing_modelled = g.met.F.Files.failing_modelled c.args.files.now in
    MatchResult-weaker c.task_of.result (rw (c.deref.ensures.value, c.deref-in-Ok.ensures.value) at c.task_of.ensures)
    (task_read failing_modelled both.keeps (plain_inputs c.args.inputs) c.in-Ok.model.items c.in-Ok.second.items both.read)
    (bytes_end failing_modelled both.keeps (plain_inputs c.args.inputs) c.in-Ok.model.items c.in-Ok.second.items both.read)

pub returns-in-Err : goal.returns-in-Err
returns-in-Err g c = ended_unread c.in-Err.ending c.in-Err.ensures
