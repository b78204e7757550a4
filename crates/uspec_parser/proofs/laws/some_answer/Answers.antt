use Rattle.uspec_parser.{specs.Answers.{terminals}, proofs.Existence.{model_answer, formula_answer}}
use Rattle.uspec_parser.proofs.laws.some_answer.Goals as goal

pub returns-clause-model : goal.returns-clause-model
returns-clause-model c = model_answer (terminals c.args.tokens.now)

pub returns-clause-formula : goal.returns-clause-formula
returns-clause-formula c = formula_answer (terminals c.args.tokens.now)
