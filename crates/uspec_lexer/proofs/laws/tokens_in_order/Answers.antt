use Rattle.uspec_lexer.proofs.Order.{spells-get, spells-rises, spells-length}
use Rattle.uspec_lexer.proofs.laws.tokens_in_order.Goals as goal

pub returns-clause-pieces : goal.returns-clause-pieces
returns-clause-pieces g c = λ ts k t s got. spells-get k s got

pub returns-clause-order : goal.returns-clause-order
returns-clause-order g c = λ ts j k t u s got got' lt. spells-rises j k s got got' lt

pub returns-clause-few : goal.returns-clause-few
returns-clause-few g c = λ ts s. spells-length s
