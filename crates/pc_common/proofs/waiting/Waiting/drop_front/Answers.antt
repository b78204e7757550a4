use Rattle.std.proofs.{Common.{arith}, lemmas.Grind.{common_steps}}
use Rattle.pc_common.proofs.waiting.Waiting.drop_front.Goals as goal

-- arithmetic with lists: the search by rules, which is tried first without an answer, fails late here
pub returns-then-self-clause-bytes : goal.returns-then-self-clause-bytes
returns-then-self-clause-bytes c = grind (arith, common_steps)

pub returns-else-self-clause-bytes : goal.returns-else-self-clause-bytes
returns-else-self-clause-bytes c = grind (arith, common_steps)

pub returns-else-self-clause-used : goal.returns-else-self-clause-used
returns-else-self-clause-used c = grind (arith, common_steps)
