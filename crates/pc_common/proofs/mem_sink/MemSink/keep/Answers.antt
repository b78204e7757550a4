use Rattle.std.proofs.{Common.{arith}, lemmas.Grind.{common_steps}}
use Rattle.pc_common.proofs.mem_sink.MemSink.keep.Goals as goal

-- arithmetic with lists: the search by rules, which is tried first without an answer, fails late here
pub returns-clause-bytes : goal.returns-clause-bytes
returns-clause-bytes c = grind (arith, common_steps)
