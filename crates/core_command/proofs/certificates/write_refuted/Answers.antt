use Rattle.std.proofs.Common.{refl}
use Rattle.pc_common.proofs.Writes.{writes_then, writes_stop}
use Rattle.core_command.proofs.certificates.write_refuted.Goals as goal

pub returns-in_err-write_all : goal.returns-in_err-write_all
returns-in_err-write_all g c =
    writes_stop _ refl c.from_residual.ensures.0 (rw c.verdict_line.ensures at c.in_err-write_all.ensures)

pub returns-in_err-write_all-2 : goal.returns-in_err-write_all-2
returns-in_err-write_all-2 g c =
    writes_then refl (rw c.verdict_line.ensures at c.in_ok-write_all.ensures)
    (writes_stop _ refl c.from_residual-in_err-write_all-2.ensures.0
    (rw (c.second_line.ensures, c.expect.ensures) at c.in_err-write_all-2.ensures))

pub returns-in_err-write_refutation : goal.returns-in_err-write_refutation
returns-in_err-write_refutation g c =
    writes_then refl (rw c.verdict_line.ensures at c.in_ok-write_all.ensures)
    (writes_then refl (rw (c.second_line.ensures, c.expect.ensures) at c.in_ok-write_all-2.ensures)
    (writes_stop _ refl c.from_residual-in_err-write_refutation.ensures.0 (rw c.of-names.ensures.view at c.in_err-write_refutation.ensures)))

pub returns : goal.returns
returns g c =
    writes_then refl (rw c.verdict_line.ensures at c.in_ok-write_all.ensures)
    (writes_then refl (rw (c.second_line.ensures, c.expect.ensures) at c.in_ok-write_all-2.ensures)
    (writes_then refl (rw c.of-names.ensures.view at c.in_ok-write_refutation.ensures) c.write_all-3.ensures))
