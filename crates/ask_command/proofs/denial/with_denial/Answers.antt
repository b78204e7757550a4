use Rattle.pc_syntax.specs.Written.{written}
use Rattle.ask_command.proofs.InquiryParts.{pushed_is}
use Rattle.ask_command.proofs.denial.with_denial.Goals as goal

pub returns : goal.returns
returns c =
    let model = c.args.model in
    rw c.in_ok-push.ensures (pushed_is model.stages model.items c.in_ok-body.body (written c.args.formula) c.in_ok-body.ensures)
