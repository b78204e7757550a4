use Rattle.ll_grammar.proofs.Faults.{one_answer}
use Rattle.uspec_parser.specs.{Marks.{IsMarkedModel, IsMarkedFormula}, Answers.{terminals}}
use Rattle.uspec_parser.proofs.laws.one_answer.Goals as goal

pub returns-clause-model : goal.returns-clause-model
returns-clause-model c = one_answer IsMarkedModel (terminals c.args.tokens.now)

pub returns-clause-formula : goal.returns-clause-formula
returns-clause-formula c = one_answer IsMarkedFormula (terminals c.args.tokens.now)
