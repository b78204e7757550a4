use Rattle.std.proofs.Common.{refl, ◌++◌}
use Rattle.pc_common.proofs.Rooms.{puts_then, puts_stop}
use Rattle.sweep_command.specs.Texts.{rows_text, counts_text}
use Rattle.sweep_command.proofs.report.put_sweep.Goals as goal

pub returns-in_err-put_title : goal.returns-in_err-put_title
returns-in_err-put_title g c =
    let s = c.args.swept.now in
    puts_stop (rows_text s.pattern s.answers.items ++ counts_text s.answers.items) refl c.from_residual.ensures.0
    (rw c.rows.ensures.value at c.in_err-put_title.ensures)

pub returns-in_err-put_rows : goal.returns-in_err-put_rows
returns-in_err-put_rows g c =
    let s = c.args.swept.now in
    puts_then refl (rw c.rows.ensures.value at c.in_ok-put_title.ensures)
    (puts_stop (counts_text s.answers.items) refl c.from_residual-in_err-put_rows.ensures.0 c.in_err-put_rows.ensures)

pub returns : goal.returns
returns g c =
    puts_then refl (rw c.rows.ensures.value at c.in_ok-put_title.ensures)
    (puts_then refl c.in_ok-put_rows.ensures (rw c.deref.ensures.value at c.put_counts.ensures))
