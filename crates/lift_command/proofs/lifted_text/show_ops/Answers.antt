use Rattle.std.proofs.Common.{arith}
use Rattle.pc_case.specs.Plain.{micro_op}
use Rattle.pc_ground.proofs.OpWalks.{small_more, small_all}
use Rattle.lift_command.proofs.lifted_text.show_ops.Goals as goal

pub loop-k-preserved : goal.loop-k-preserved
loop-k-preserved c = small_more c.args.case.now.ops c.loop-k.k (micro_op c.op.result.now) c.loop-k.invariant c.op.ensures.op c.show_name.ensures

pub returns : goal.returns
returns c = small_all c.args.case.now.ops c.loop-k.k (omega (arith, c.loop-k-test.false, c.ops-k-end.ensures.count)) c.loop-k.invariant
