use Rattle.std.proofs.Common.{refl}
use Rattle.pc_common.proofs.Writes.{writes_then, writes_stop}
use Rattle.verdicts.proofs.report.write_tree.Goals as goal

pub returns-in_err-write_all : goal.returns-in_err-write_all
returns-in_err-write_all g c =
    writes_stop _ refl c.from_residual.ensures.0 (rw c.version_line.ensures at c.in_err-write_all.ensures)

pub returns : goal.returns
returns g c = writes_then refl (rw c.version_line.ensures at c.in_ok-write_all.ensures) c.write_refutation.ensures
