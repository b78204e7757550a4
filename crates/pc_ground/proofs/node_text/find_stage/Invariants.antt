use Rattle.pc_ground.proofs.StageWalks.{NoneNamed}
use Rattle.pc_ground.proofs.node_text.find_stage.Given as goal

abbrev pub invariant-loop-k : goal.invariant-loop-k
invariant-loop-k l = NoneNamed l.stages l.name l.k
