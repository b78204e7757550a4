use Rattle.std.proofs.{Common.{refl}, lemmas.Option.{slice_get_within}}
use Rattle.pc_common.proofs.{Rooms.{puts_text}, RoomPieces.{puts_next, puts_failed}}
use Rattle.refutation.{specs.Steps.{plain_step, step_text}, proofs.Items.{text_at}}
use Rattle.refutation.proofs.writing.put_steps.Goals as goal

pub returns-in_err-put_step : goal.returns-in_err-put_step
returns-in_err-put_step g c =
    let f = step_text c.args.names.now in let x = plain_step c.step.result.now in
    puts_failed f c.args.refutation.now c.loop-k.k x (slice_get_within c.args.refutation.now c.loop-k.k x c.step.ensures) refl c.from_residual.ensures.0
    c.loop-k.invariant (puts_text _ (text_at f c.args.refutation.now c.loop-k.k x c.step.ensures) c.in_err-put_step.ensures)

pub loop-k-preserved : goal.loop-k-preserved
loop-k-preserved g c =
    let f = step_text c.args.names.now in let x = plain_step c.step.result.now in
    puts_next f c.args.refutation.now c.loop-k.k x (slice_get_within c.args.refutation.now c.loop-k.k x c.step.ensures) refl c.loop-k.invariant
    (puts_text _ (text_at f c.args.refutation.now c.loop-k.k x c.step.ensures) c.in_ok-put_step.ensures)
