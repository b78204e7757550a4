-- No space stands among the first bytes.
use Rattle.std.proofs.Common.{take}
use Rattle.pc_ground.specs.NodeWords.{Lacks}
use Rattle.graph_text.specs.GraphTexts.{space}
use Rattle.graph_text.proofs.reading.cut.Given as goal

abbrev pub invariant-loop-at : goal.invariant-loop-at
invariant-loop-at l = Lacks space (take l.at l.line)
