-- The lines of the first numbers were written.
use Rattle.std.{proofs.Common.{take}, specs.List.{flat_map}}
use Rattle.pc_common.specs.Writes.{Writes, success}
use Rattle.core_command.specs.CoreTexts.{axiom_line}
use Rattle.core_command.proofs.report.write_axioms.Given as goal

abbrev pub invariant-loop-number : goal.invariant-loop-number
invariant-loop-number g l = Writes g.K.Sink.view l.initial.out l.out success (flat_map axiom_line (take l.number-index l.kept))
