use Rattle.std.proofs.Common.{take, map}
use Rattle.litmus_reader.specs.Lists.{case_by}
use Rattle.pattern_reader.{specs.Opens.{plain_open}, proofs.Building.{AreRead}}
use Rattle.pattern_reader.proofs.read.pattern_of_lists.Given as goal

abbrev pub invariant-loop-k : goal.invariant-loop-k
invariant-loop-k l = AreRead (case_by l.lists) l.reads.items l.rows (map plain_open (take l.k l.opens))
