use Rattle.std.proofs.Common.{refl}
use Rattle.pc_common.proofs.Writes.{writes_then, writes_stop}
use Rattle.core_command.proofs.report.write_none.Goals as goal

pub returns-in_err-write_all : goal.returns-in_err-write_all
returns-in_err-write_all g c = writes_stop _ refl c.from_residual.ensures.0 c.in_err-write_all.ensures

pub returns-in_err-write_shown : goal.returns-in_err-write_shown
returns-in_err-write_shown g c =
    writes_then refl c.in_ok-write_all.ensures (writes_stop _ refl c.from_residual-in_err-write_shown.ensures.0 c.in_err-write_shown.ensures)

pub returns : goal.returns
returns g c = writes_then refl c.in_ok-write_all.ensures (writes_then refl c.in_ok-write_shown.ensures c.write_all-2.ensures)
