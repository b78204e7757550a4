use Rattle.std.proofs.Common.{◌≡◌, drop}
use Rattle.pc_syntax.specs.Stages.{stage_with_name}
use Rattle.macro_expand.proofs.stages.with_name.Given as goal

abbrev pub invariant-loop-stage : goal.invariant-loop-stage
invariant-loop-stage l = stage_with_name l.stages l.name ≡ stage_with_name (drop l.stage-index l.stages) l.name
