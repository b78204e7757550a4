use Rattle.std.{proofs.{Common.{refl, ap, arith}, lemmas.{List.{take_all}, Option.{slice_get_within}}}, specs.List.{flat_map}}
use Rattle.pc_common.proofs.{Rooms.{puts_text}, RoomPieces.{puts_next, puts_failed}}
use Rattle.pc_case.specs.Plain.{plain_value}
use Rattle.pattern_reader.specs.Rows.{values_in_row}
use Rattle.sweep_command.{specs.Texts.{value_text}, proofs.SweepTexts.{text_at, length_values, puts_whole}}
use Rattle.sweep_command.proofs.report.put_values.Goals as goal

pub returns-in_err-put_value : goal.returns-in_err-put_value
returns-in_err-put_value g c =
    let xs = values_in_row c.args.pattern.now c.args.row in
    let x = plain_value c.value.result in
    puts_failed value_text xs c.loop-k.k x (slice_get_within xs c.loop-k.k x c.value.ensures) refl c.from_residual.ensures.0 c.loop-k.invariant
    (puts_text _ (text_at value_text xs c.loop-k.k x c.value.ensures) c.in_err-put_value.ensures)

pub loop-k-preserved : goal.loop-k-preserved
loop-k-preserved g c =
    let xs = values_in_row c.args.pattern.now c.args.row in
    let x = plain_value c.value.result in
    puts_next value_text xs c.loop-k.k x (slice_get_within xs c.loop-k.k x c.value.ensures) refl c.loop-k.invariant
    (puts_text _ (text_at value_text xs c.loop-k.k x c.value.ensures) c.in_ok-put_value.ensures)

pub returns : goal.returns
returns g c =
    let xs = values_in_row c.args.pattern.now c.args.row in
    let all = length_values c.args.pattern.now c.args.row in
    puts_whole _ (ap (flat_map value_text) (take_all c.loop-k.k xs (omega (arith, all, c.opens-k-end.ensures)))) c.loop-k.invariant
