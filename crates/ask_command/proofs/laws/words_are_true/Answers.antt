use Rattle.ask_command.proofs.TrueWords.{words_true}
use Rattle.ask_command.proofs.laws.words_are_true.Goals as goal

pub returns : goal.returns
returns c = λ d stages ps p a is. words_true d stages ps p a is
