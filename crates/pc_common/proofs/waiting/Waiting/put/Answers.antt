use Rattle.std.proofs.{Common.{rules, arith}, lemmas.Grind.{common_steps}}
use Rattle.pc_common.proofs.Moves.{went_behind}
use Rattle.pc_common.proofs.waiting.Waiting.put.Goals as goal

pub returns-clause-bytes : goal.returns-clause-bytes
returns-clause-bytes c =
    went_behind c.args.self.now.from c.args.self.now.used c.min-n.result c.args.self.now.bytes _ _ (search rules) (search rules) (grind (arith, common_steps))
