use Rattle.std.proofs.{Common.{arith, sym}, lemmas.Option.{slice_get_within}}
use Rattle.pc_ground.proofs.node_text.NodeText.find_node.Goals as goal

pub returns-in_err-op : goal.returns-in_err-op
returns-in_err-op c =
    rw (c.from_residual.ensures, sym c.self.view_is) (λ a core h. c.in_err-op.ensures a.op h.op)

pub returns-in_err-stage : goal.returns-in_err-stage
returns-in_err-stage c =
    rw (c.from_residual-in_err-stage.ensures, sym c.self.view_is) (λ a core h. c.in_err-stage.ensures a.stage h.stage)

pub overflow_cast-result : goal.overflow_cast-result
overflow_cast-result c =
    omega (arith, slice_get_within c.self.inside.case.now.ops c.in_ok-op.op c.in_ok-op.ensures.0 c.in_ok-op.ensures.1, c.self.invariant.1.few)

pub invariant_of-result : goal.invariant_of-result
invariant_of-result c = record {
  in_range = (
    omega (arith, slice_get_within c.self.inside.case.now.ops c.in_ok-op.op c.in_ok-op.ensures.0 c.in_ok-op.ensures.1, c.self.invariant.1.few),
    omega (arith, c.if-words-gt-MAX_CORE.false),
    c.self.inside.named.numbers c.in_ok-stage.ensures.0 (c.in_ok-stage.stage, c.args.words.now.stage.now) c.in_ok-stage.ensures.1,
  );
}
