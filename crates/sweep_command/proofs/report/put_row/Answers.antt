use Rattle.std.{proofs.{Common.{refl, ap, ◌∙◌, ◌++◌, ◌<◌, length, arith}, lemmas.List.{get_or_default}}, specs.Prelude.{get_or, false}}
use Rattle.pc_common.proofs.Rooms.{puts_then, puts_stop, puts_text}
use Rattle.sweep_command.specs.Texts.{values_text, verdict_word}
use Rattle.sweep_command.proofs.report.put_row.Goals as goal

pub returns-in_err-put : goal.returns-in_err-put
returns-in_err-put g c =
    let s = c.args.swept.now in
    puts_stop (values_text s.pattern c.args.row ++ verdict_word (get_or s.answers.items c.args.row false)) refl
    c.from_residual.ensures.0 c.in_err-put.ensures.puts

pub returns-in_err-put_values : goal.returns-in_err-put_values
returns-in_err-put_values g c =
    let s = c.args.swept.now in
    puts_then refl c.in_ok-put.ensures.puts
    (puts_stop (verdict_word (get_or s.answers.items c.args.row false)) refl c.from_residual-in_err-put_values.ensures.0 c.in_err-put_values.ensures)

pub returns : goal.returns
returns g c =
    let s = c.args.swept.now in
    let within : c.args.row < length s.answers.items = omega (arith, c.requires.row, c.requires.count) in
    let read = c.index.ensures ∙ get_or_default s.answers.items c.args.row c.index.result.now false within in
    puts_then refl c.in_ok-put.ensures.puts
    (puts_then refl c.in_ok-put_values.ensures (puts_text _ (c.verdict_end.ensures ∙ ap verdict_word read) c.put-2.ensures.puts))
