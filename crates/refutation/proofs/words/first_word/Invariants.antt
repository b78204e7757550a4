-- No space was met yet.
use Rattle.std.proofs.Common.{take}
use Rattle.pc_ground.specs.NodeWords.{Lacks}
use Rattle.refutation.proofs.words.first_word.Given as goal

abbrev pub invariant-loop-at : goal.invariant-loop-at
invariant-loop-at l = Lacks 32 (take l.at l.line)
