use Rattle.uspec_lexer.proofs.Totality.{some_answer}
use Rattle.uspec_lexer.proofs.laws.tokens_or_fault.Goals as goal

pub returns : goal.returns
returns g c = some_answer g.L.LexicalGrammar.table c.args.bytes.now c.args.from
