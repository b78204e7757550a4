-- The numbers of the micro-ops before the next one have at most 64 bits.
use Rattle.pc_ground.proofs.OpWalks.{SmallBelow}
use Rattle.lift_command.proofs.lifted_text.show_ops.Given as goal

abbrev pub invariant-loop-k : goal.invariant-loop-k
invariant-loop-k l = SmallBelow l.case.ops l.k
