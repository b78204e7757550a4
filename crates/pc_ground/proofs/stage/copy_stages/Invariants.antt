-- The first stages were copied.
use Rattle.std.proofs.Common.{◌≡◌, take}
use Rattle.pc_ground.proofs.stage.copy_stages.Given as goal

abbrev pub invariant-loop-stage : goal.invariant-loop-stage
invariant-loop-stage l = l.copies ≡ take l.stage-index l.stage-items
