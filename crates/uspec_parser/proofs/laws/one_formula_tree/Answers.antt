use Rattle.uspec_parser.proofs.Trees.{one_formula}
use Rattle.uspec_parser.proofs.laws.one_formula_tree.Goals as goal

pub returns : goal.returns
returns c = one_formula c.args.tokens.now
