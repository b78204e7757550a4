use Rattle.uspec_parser.proofs.Trees.{formula_text, text_formula}
use Rattle.uspec_parser.proofs.laws.formula_texts.Goals as goal

pub returns : goal.returns
returns c = (formula_text c.args.tokens.now, text_formula c.args.tokens.now)
