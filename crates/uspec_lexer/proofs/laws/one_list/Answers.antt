use Rattle.uspec_lexer.proofs.SpellsLaws.{spells-unique}
use Rattle.uspec_lexer.proofs.laws.one_list.Goals as goal

pub returns : goal.returns
returns g c = λ ts us s t. spells-unique s t
