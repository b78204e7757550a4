use Rattle.std.proofs.Common.{◌≡◌, drop, map}
use Rattle.pc_common.specs.Lines.{stage_name}
use Rattle.pc_ground.specs.Stages.{plain_stage}
use Rattle.pc_ground.proofs.node_text.stage_name.Given as goal

abbrev pub invariant-loop-k : goal.invariant-loop-k
invariant-loop-k l = stage_name (map plain_stage l.stages) l.number ≡ stage_name (map plain_stage (drop l.k l.stages)) l.number
