use Rattle.std.{proofs.{Common.{refl, ap, arith}, lemmas.List.{take_all}}, specs.List.{flat_map, range_with_len}}
use Rattle.pc_common.proofs.{Rooms.{puts_text}, RoomPieces.{puts_next, puts_failed}}
use Rattle.pattern_reader.specs.Rows.{rows_of}
use Rattle.sweep_command.{specs.Texts.{row_text}, proofs.SweepTexts.{row_in, row_at, length_rows, puts_whole}}
use Rattle.sweep_command.proofs.report.put_rows.Goals as goal

pub returns-in_err-put_row : goal.returns-in_err-put_row
returns-in_err-put_row g c =
    let p = c.args.swept.now.pattern in
    let f = row_text p c.args.swept.now.answers.items in
    let n = rows_of p in
    let within = row_in n c.loop-row.row (omega (arith, c.rows-row-end.ensures.value)) in
    puts_failed f (range_with_len 0 n) c.loop-row.row 0 within refl c.from_residual.ensures.0 c.loop-row.invariant
    (puts_text _ (row_at f n c.loop-row.row (omega (arith, c.rows-row-end.ensures.value))) c.in_err-put_row.ensures)

pub loop-row-preserved : goal.loop-row-preserved
loop-row-preserved g c =
    let p = c.args.swept.now.pattern in
    let f = row_text p c.args.swept.now.answers.items in
    let n = rows_of p in
    let within = row_in n c.loop-row.row (omega (arith, c.rows-row-end.ensures.value)) in
    puts_next f (range_with_len 0 n) c.loop-row.row 0 within refl c.loop-row.invariant
    (puts_text _ (row_at f n c.loop-row.row (omega (arith, c.rows-row-end.ensures.value))) c.in_ok-put_row.ensures)

pub returns : goal.returns
returns g c =
    let p = c.args.swept.now.pattern in
    let n = rows_of p in
    let all = length_rows n in
    puts_whole _ (ap (flat_map (row_text p c.args.swept.now.answers.items))
    (take_all c.loop-row.row (range_with_len 0 n) (omega (arith, all, c.rows-row-end.ensures.value))))
    c.loop-row.invariant
