use Rattle.uspec_lexer.proofs.SpellsLaws.{spells-no_fault}
use Rattle.uspec_lexer.proofs.laws.no_fault.Goals as goal

pub returns : goal.returns
returns g c = λ ts k s f. spells-no_fault s f
