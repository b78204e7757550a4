use Rattle.uspec_lexer.proofs.SpellsLaws.{lexical_fault-unique}
use Rattle.uspec_lexer.proofs.laws.one_fault.Goals as goal

pub returns : goal.returns
returns g c = λ j k f g. lexical_fault-unique f g
