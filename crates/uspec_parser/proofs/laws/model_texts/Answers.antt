use Rattle.uspec_parser.proofs.Trees.{model_text, text_model}
use Rattle.uspec_parser.proofs.laws.model_texts.Goals as goal

pub returns : goal.returns
returns c = (model_text c.args.tokens.now, text_model c.args.tokens.now)
