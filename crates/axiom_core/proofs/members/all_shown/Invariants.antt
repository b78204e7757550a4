-- Each number so far has its graph.
use Rattle.std.proofs.Common.{take}
use Rattle.axiom_core.specs.{Chosen.{flagged}, Cores.{AreShownWithout}}
use Rattle.axiom_core.proofs.members.all_shown.Given as goal

abbrev pub invariant-loop-at : goal.invariant-loop-at
invariant-loop-at g l = AreShownWithout l.front (flagged l.flags) (take l.at-index l.kept) l.shown
