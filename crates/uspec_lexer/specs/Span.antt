-- A span of a text, and the token that stands there.
use Rattle.std.specs.Prelude.{ℕ, ◌+◌, ◌≤◌, List, slice_range, length}
use Rattle.uspec_lexer.specs.{Token.{Token, Kind, name, number, text, symbol}, declared.token.TokenKind.{TokenKind, TheVariants.{Name, Number, Text, Symbol}}}
use Rattle.uspec_lexer.specs.declared.list.Span.{Span}

abbrev pub kind_of_token : TokenKind → Kind
kind_of_token Name = name
kind_of_token (Number n) = number n
kind_of_token Text = text
kind_of_token Symbol = symbol

abbrev pub token_at : List ℕ → Span → Token
token_at bytes s = record { kind = kind_of_token s.kind; at = s.at; piece = slice_range bytes s.at (s.at + s.len) }

abbrev pub IsWithin : List ℕ → Span → Type 0
IsWithin bytes s = s.at + s.len ≤ length bytes
