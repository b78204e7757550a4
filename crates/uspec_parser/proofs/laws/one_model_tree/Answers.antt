use Rattle.uspec_parser.proofs.Trees.{one_model}
use Rattle.uspec_parser.proofs.laws.one_model_tree.Goals as goal

pub returns : goal.returns
returns c = one_model c.args.tokens.now
