use Rattle.std.proofs.Common.{◌∙◌}
use Rattle.pc_ground.proofs.StageWalks.{name_found, name_passed}
use Rattle.pc_ground.proofs.node_text.stage_name.Goals as goal

pub returns-then-stage-number : goal.returns-then-stage-number
returns-then-stage-number c =
    c.as_slice.ensures.value ∙ name_found c.args.stages.now c.args.number c.loop-k.k c.get-stage.result.now c.loop-k.invariant
    c.get-stage.ensures c.if-stage-number.true

pub loop-k-preserved : goal.loop-k-preserved
loop-k-preserved c =
    name_passed c.args.stages.now c.args.number c.loop-k.k c.get-stage.result.now c.loop-k.invariant c.get-stage.ensures c.if-stage-number.false
