use Rattle.std.proofs.Common.{take}
use Rattle.pc_ground.specs.NodeWords.{Lacks}
use Rattle.pc_ground.proofs.node_words.cut.Given as goal

abbrev pub invariant-loop-at : goal.invariant-loop-at
invariant-loop-at l = Lacks l.mark (take l.at l.word)
