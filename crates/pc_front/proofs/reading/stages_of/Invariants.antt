-- The stages so far are kept.
use Rattle.std.proofs.Common.{◌≡◌, map, take}
use Rattle.pc_ground.specs.Stages.{plain_stage}
use Rattle.pc_front.specs.ModelFront.{written_stage}
use Rattle.pc_front.proofs.reading.stages_of.Given as goal

abbrev pub invariant-loop-stage : goal.invariant-loop-stage
invariant-loop-stage l = map plain_stage l.kept ≡ map written_stage (take l.stage-index l.stage-items)
