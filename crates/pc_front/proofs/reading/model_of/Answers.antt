use Rattle.pc_front.proofs.FrontLaws.{parse_is_end}
use Rattle.pc_front.proofs.reading.model_of.Goals as goal

pub returns-in-Err-clause-err : goal.returns-in-Err-clause-err
returns-in-Err-clause-err c =
    rw c.parse_refusal.ensures (parse_is_end c.args.bytes.now c.args.tokens.now c.in-Err.fault c.requires.spelled c.in-Err.ensures.fault)
