use Rattle.std.proofs.Common.{◌<◌, length, ap, arith}
use Rattle.pc_front.proofs.FrontLaws.{number_below}
use Rattle.pc_front.proofs.reading.stages_of.Goals as goal

pub overflow_cast-stage : goal.overflow_cast-stage
overflow_cast-stage c =
    let within : c.loop-stage.stage-index < length c.args.stages.now = omega (arith, ap length c.as_slice-stage-items.ensures.value) in
    let low = number_below c.args.stages.now c.loop-stage.stage-index c.stage-item.result c.requires within
    (rw c.as_slice-stage-items.ensures.value at c.stage-item.is) in
    omega (arith, low)
