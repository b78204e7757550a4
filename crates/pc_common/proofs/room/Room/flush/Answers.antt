use Rattle.std.proofs.{Common.{arith}, lemmas.Grind.{common_steps}}
use Rattle.pc_common.proofs.room.Room.flush.Goals as goal

-- arithmetic with lists: the search by rules, which is tried first without an answer, fails late here
pub returns-then-sent-waiting : goal.returns-then-sent-waiting
returns-then-sent-waiting g c = grind (arith, common_steps)

pub returns : goal.returns
returns g c = grind (arith, common_steps)
