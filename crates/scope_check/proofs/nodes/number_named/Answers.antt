use Rattle.std.proofs.Common.{◌<◌, length, sym, ◌∙◌, arith}
use Rattle.scope_check.proofs.{Walks.{drop_item}, StageWalk.{stage_here, stage_later, no_stage}}
use Rattle.scope_check.proofs.nodes.number_named.Goals as goal

pub returns-then-eq : goal.returns-then-eq
returns-then-eq c =
    let stages = c.args.stages.now in
    let within : c.loop-stage.stage-index < length stages = omega arith in
    let next = drop_item stages c.loop-stage.stage-index c.stage-item.result within c.stage-item.is in
    let same = rw c.as_slice.ensures.value at c.if-eq.ensures in
    sym (c.loop-stage.invariant ∙ stage_here stages c.loop-stage.stage-index c.stage-item.result c.args.name.now next same)

pub loop-stage-preserved : goal.loop-stage-preserved
loop-stage-preserved c =
    let stages = c.args.stages.now in
    let within : c.loop-stage.stage-index < length stages = omega arith in
    let next = drop_item stages c.loop-stage.stage-index c.stage-item.result within c.stage-item.is in
    let other = rw c.as_slice.ensures.value at c.if-eq.ensures in
    c.loop-stage.invariant ∙ stage_later stages c.loop-stage.stage-index c.stage-item.result c.args.name.now next other

pub returns : goal.returns
returns c = sym (c.loop-stage.invariant ∙ no_stage c.args.stages.now c.loop-stage.stage-index c.args.name.now (omega arith))
