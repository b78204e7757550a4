-- No such byte was met yet.
use Rattle.std.proofs.Common.{take}
use Rattle.pc_ground.specs.NodeWords.{Lacks}
use Rattle.lifted_check.proofs.words.cut.Given as goal

abbrev pub invariant-loop-at : goal.invariant-loop-at
invariant-loop-at l = Lacks l.mark (take l.at l.word)
