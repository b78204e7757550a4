use Rattle.std.proofs.Common.{refl}
use Rattle.pc_common.proofs.Writes.{writes_then, writes_stop}
use Rattle.ask_command.proofs.report.write_ask.Goals as goal

pub returns-in_err-write_all : goal.returns-in_err-write_all
returns-in_err-write_all g c =
    writes_stop _ refl c.from_residual.ensures.0 (rw (c.head.ensures, c.word-told.ensures) at c.in_err-write_all.ensures)

pub returns-in_err-write_verdict : goal.returns-in_err-write_verdict
returns-in_err-write_verdict g c =
    writes_then refl (rw (c.head.ensures, c.word-told.ensures) at c.in_ok-write_all.ensures)
    (writes_stop _ refl c.from_residual-in_err-write_verdict.ensures.0 c.in_err-write_verdict.ensures)

pub returns-in_err-write_all-2 : goal.returns-in_err-write_all-2
returns-in_err-write_all-2 g c =
    writes_then refl (rw (c.head.ensures, c.word-told.ensures) at c.in_ok-write_all.ensures)
    (writes_then refl c.in_ok-write_verdict.ensures (writes_stop _ refl c.from_residual-in_err-write_all-2.ensures.0 c.in_err-write_all-2.ensures))

pub returns-in_err-write_verdict-2 : goal.returns-in_err-write_verdict-2
returns-in_err-write_verdict-2 g c =
    writes_then refl (rw (c.head.ensures, c.word-told.ensures) at c.in_ok-write_all.ensures)
    (writes_then refl c.in_ok-write_verdict.ensures (writes_then refl c.in_ok-write_all-2.ensures
    (writes_stop _ refl c.from_residual-in_err-write_verdict-2.ensures.0 c.in_err-write_verdict-2.ensures)))

pub returns : goal.returns
returns g c =
    writes_then refl (rw (c.head.ensures, c.word-told.ensures) at c.in_ok-write_all.ensures)
    (writes_then refl c.in_ok-write_verdict.ensures (writes_then refl c.in_ok-write_all-2.ensures
    (writes_then refl c.in_ok-write_verdict-2.ensures c.write_all-3.ensures)))
