-- What a token of the code is as plain data.
use Rattle.uspec_lexer.specs.{Token.{Token as PlainToken}, Span.{kind_of_token}, declared.token.Token.{Token}}

abbrev pub plain : Token → PlainToken
plain t = record { kind = kind_of_token t.kind; at = t.at.offset; piece = t.piece.now }
