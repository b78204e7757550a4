use Rattle.std.proofs.Common.{◌≡◌, drop}
use Rattle.pc_syntax.specs.Stages.{stage_with_number}
use Rattle.macro_expand.proofs.stages.with_number.Given as goal

abbrev pub invariant-loop-stage : goal.invariant-loop-stage
invariant-loop-stage l = stage_with_number l.stages l.number ≡ stage_with_number (drop l.stage-index l.stages) l.number
