use Rattle.ll_grammar.{specs.Rules.{Derives}, proofs.Faults.{one_answer}}
use Rattle.ll_grammar.proofs.laws.one_answer.Goals as goal

pub returns : goal.returns
returns g c = one_answer (Derives g.N.Grammar.rules c.args.start) c.args.classes.now
