use Rattle.uspec_lexer.proofs.Spans.{lexed_to-next}
use Rattle.uspec_lexer.proofs.lex.tokens_from.Goals as goal

pub loop-at-preserved : goal.loop-at-preserved
loop-at-preserved g c =
    lexed_to-next g.L.LexicalGrammar.table c.args.bytes.now c.args.from c.in-Some.piece.form c.loop-at.at c.in-Some.piece.end _ _
    c.loop-at.invariant c.in-Some.ensures c.in_ok-keep.ensures
