use Rattle.std.proofs.Common.{subst}
use Rattle.pc_common.{specs.declared.status.Status.{Status, TheVariants.{WriteFault}}, proofs.Bools.{clash}}
use Rattle.top_call.{specs.Decides.{IsTold}, proofs.Told.{silent_told, written_told, failed_told}}
use Rattle.top_call.proofs.top.tell.Goals as goal

pub returns-then-is_silent : goal.returns-then-is_silent
returns-then-is_silent g c =
    let P : Status → Type 0 = λ s. IsTold g.K.Sink.view s (g.R.Reply.text c.args.reply.now) c.args.out.now c.args.out.now c.status-status.result in
    subst P c.status-status.ensures.is (silent_told (c.is_silent.ensures.0 c.if-is_silent.true))

pub returns-in-Ok : goal.returns-in-Ok
returns-in-Ok g c =
    let P : Status → Type 0 = λ s. IsTold g.K.Sink.view s (g.R.Reply.text c.args.reply.now) c.args.out.now c.write.new.out c.status-status.result in
    subst P c.status-status.ensures.is
    (written_told (λ is. clash (c.is_silent.ensures.1 is) c.if-is_silent.false) c.status-status.ensures.own (rw c.in-Ok.is at c.write.ensures))

pub returns-in-Err : goal.returns-in-Err
returns-in-Err g c =
    let P : Status → Type 0 = λ s. IsTold g.K.Sink.view s (g.R.Reply.text c.args.reply.now) c.args.out.now c.write.new.out WriteFault in
    subst P c.status-status.ensures.is
    (failed_told (λ is. clash (c.is_silent.ensures.1 is) c.if-is_silent.false) (rw c.in-Err.is at c.write.ensures))
