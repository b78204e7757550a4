use Rattle.std.proofs.Common.{rules}
use Rattle.pc_front.proofs.FrontLaws.{lexical_is_end}
use Rattle.pc_front.proofs.reading.parse_bytes.Goals as goal

pub returns-in_err-tokens-clause-err : goal.returns-in_err-tokens-clause-err
returns-in_err-tokens-clause-err c = search (rules, lexical_is_end)
