use Rattle.std.proofs.Common.{refl}
use Rattle.pc_common.proofs.Writes.{writes_then, writes_stop}
use Rattle.core_command.proofs.report.write_minimal.Goals as goal

pub returns-in_err-write_line : goal.returns-in_err-write_line
returns-in_err-write_line g c = writes_stop _ refl c.from_residual.ensures.0 (rw c.len.ensures.value at c.in_err-write_line.ensures)

pub returns-in_err-write_axioms : goal.returns-in_err-write_axioms
returns-in_err-write_axioms g c =
    writes_then refl (rw c.len.ensures.value at c.in_ok-write_line.ensures)
    (writes_stop _ refl c.from_residual-in_err-write_axioms.ensures.0 c.in_err-write_axioms.ensures)

pub returns-in_err-write_all : goal.returns-in_err-write_all
returns-in_err-write_all g c =
    writes_then refl (rw c.len.ensures.value at c.in_ok-write_line.ensures)
    (writes_then refl c.in_ok-write_axioms.ensures (writes_stop _ refl c.from_residual-in_err-write_all.ensures.0 c.in_err-write_all.ensures))

pub returns-in_err-write_refuted : goal.returns-in_err-write_refuted
returns-in_err-write_refuted g c =
    writes_then refl (rw c.len.ensures.value at c.in_ok-write_line.ensures)
    (writes_then refl c.in_ok-write_axioms.ensures (writes_then refl c.in_ok-write_all.ensures
    (writes_stop _ refl c.from_residual-in_err-write_refuted.ensures.0 c.in_err-write_refuted.ensures)))

pub returns-in_err-write_graphs : goal.returns-in_err-write_graphs
returns-in_err-write_graphs g c =
    writes_then refl (rw c.len.ensures.value at c.in_ok-write_line.ensures)
    (writes_then refl c.in_ok-write_axioms.ensures (writes_then refl c.in_ok-write_all.ensures (writes_then refl c.in_ok-write_refuted.ensures
    (writes_stop _ refl c.from_residual-in_err-write_graphs.ensures.0 c.in_err-write_graphs.ensures))))

pub returns : goal.returns
returns g c =
    writes_then refl (rw c.len.ensures.value at c.in_ok-write_line.ensures)
    (writes_then refl c.in_ok-write_axioms.ensures (writes_then refl c.in_ok-write_all.ensures (writes_then refl c.in_ok-write_refuted.ensures
    (writes_then refl c.in_ok-write_graphs.ensures c.write_all-2.ensures))))
