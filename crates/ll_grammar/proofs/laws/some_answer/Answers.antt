use Rattle.ll_grammar.proofs.Existence.{some_answer}
use Rattle.ll_grammar.proofs.laws.some_answer.Goals as goal

pub returns : goal.returns
returns g c = λ decided.
    some_answer g.N.Grammar.rules g.N.Grammar.follow decided g.met.N.Grammar.predictable g.met.N.Grammar.has_texts c.args.start c.args.classes.now
