use Rattle.axiom_core.specs.declared.answer.Core.TheVariants.{None as no_axioms, Minimal}
use Rattle.core_command.specs.Found.{CanBeWritten}
use Rattle.core_command.proofs.report.write_core.Goals as goal

pub write_none-requires : goal.write_none-requires
write_none-requires g c =
    let one : CanBeWritten c.args.found.now.front (no_axioms c.in-None.graph) = rw c.in-None.is at c.requires in one

pub write_minimal-requires-clause-refuted : goal.write_minimal-requires-clause-refuted
write_minimal-requires-clause-refuted g c =
    let all : CanBeWritten c.args.found.now.front (Minimal c.in-Minimal.kept c.in-Minimal.refuted c.in-Minimal.without) = rw c.in-Minimal.is at c.requires in
    all.0

pub write_minimal-requires-clause-writable : goal.write_minimal-requires-clause-writable
write_minimal-requires-clause-writable g c =
    let all : CanBeWritten c.args.found.now.front (Minimal c.in-Minimal.kept c.in-Minimal.refuted c.in-Minimal.without) = rw c.in-Minimal.is at c.requires in
    all.1

pub write_minimal-requires-clause-beside : goal.write_minimal-requires-clause-beside
write_minimal-requires-clause-beside g c =
    let all : CanBeWritten c.args.found.now.front (Minimal c.in-Minimal.kept c.in-Minimal.refuted c.in-Minimal.without) = rw c.in-Minimal.is at c.requires in
    all.2
