use Rattle.std.proofs.Common.{length, ◌-◌}
use Rattle.uspec_lexer.proofs.Spans.{LexedTo}
use Rattle.uspec_lexer.proofs.lex.tokens_from.Given as goal

abbrev pub invariant-loop-at : goal.invariant-loop-at
invariant-loop-at g l = LexedTo g.L.LexicalGrammar.table l.bytes l.from l.at l.spans.items

abbrev pub decreases-loop-at : goal.decreases-loop-at
decreases-loop-at g l = length l.bytes - l.at
