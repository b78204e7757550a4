use Rattle.std.proofs.Common.{refl}
use Rattle.pc_common.proofs.Writes.{writes_none, writes_more, writes_cut, writes_all}
use Rattle.core_command.specs.CoreTexts.{axiom_line}
use Rattle.core_command.proofs.report.write_axioms.Goals as goal

pub loop-number-init : goal.loop-number-init
loop-number-init g c = writes_none g.K.Sink.view c.args.out.now

pub returns-in_err-write_line : goal.returns-in_err-write_line
returns-in_err-write_line g c =
    writes_cut axiom_line c.args.kept.now c.loop-number.number-index 0 (rw c.as_slice-number-items.ensures.value at c.loop-number-test.true) refl
    c.from_residual.ensures.0 c.loop-number.invariant (rw c.as_slice-number-items.ensures.value at c.in_err-write_line.ensures)

pub loop-number-preserved : goal.loop-number-preserved
loop-number-preserved g c =
    writes_more axiom_line c.args.kept.now c.loop-number.number-index 0 (rw c.as_slice-number-items.ensures.value at c.loop-number-test.true) refl
    c.loop-number.invariant (rw c.as_slice-number-items.ensures.value at c.in_ok-write_line.ensures)

pub returns : goal.returns
returns g c =
    writes_all axiom_line c.args.kept.now c.loop-number.number-index (rw c.as_slice-number-items.ensures.value at c.loop-number-test.false) refl
    c.loop-number.invariant
