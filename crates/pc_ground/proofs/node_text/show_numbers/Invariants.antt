use Rattle.pc_ground.proofs.OpWalks.{SmallBelow}
use Rattle.pc_ground.proofs.node_text.show_numbers.Given as goal

abbrev pub invariant-loop-k : goal.invariant-loop-k
invariant-loop-k l = SmallBelow l.case.ops l.k
