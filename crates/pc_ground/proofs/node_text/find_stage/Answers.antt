use Rattle.std.proofs.Common.{◌∙◌, sym, ap, Some, arith}
use Rattle.pc_ground.proofs.StageWalks.{stage_at, same_bytes, none_more, none_named}
use Rattle.pc_ground.proofs.node_text.find_stage.Goals as goal

pub returns-then-eq : goal.returns-then-eq
returns-then-eq c = (
  c.loop-k.k,
  stage_at c.args.stages.now c.loop-k.k c.get-stage.result.now c.get-stage.ensures
      ∙ ap (λ name. Some (c.get-stage.result.now.number, name))
      (sym c.as_slice.ensures.value ∙ same_bytes c.as_slice.result.now c.args.name.now (sym c.if-eq.ensures)),
)

pub loop-k-preserved : goal.loop-k-preserved
loop-k-preserved c =
    none_more c.args.stages.now c.args.name.now c.loop-k.k c.get-stage.result.now c.loop-k.invariant c.get-stage.ensures
    (rw (sym c.as_slice.ensures.value) (sym c.if-eq.ensures))

pub returns : goal.returns
returns c =
    none_named c.args.stages.now c.args.name.now c.loop-k.k c.loop-k.invariant (omega (arith, c.loop-k-test.false, c.len-k-end.ensures.value))
