-- What the scanner's answers mean.
use Rattle.std.specs.{Prelude.{ℕ, ◌-◌, Bool, List, [], ◌∷◌, Option, Some, None}, Char.{is_ascii_digit}}
use Rattle.uspec_lexer.specs.{Bytes.{is_text_byte, is_line_byte}, Table.{Table}, Piece.{Form as PlainForm, blank, comment, token, IsPiece, NoPiece}}
use Rattle.uspec_lexer.specs.{Span.{kind_of_token}, declared.{class.Class.{Class, TheVariants.{NameByte, Digit, TextByte, LineByte}}, scan.Form.{Form}}}
use Rattle.uspec_lexer.specs.declared.{scan.{Form.TheVariants.{Blank, Comment, Token}, Piece.{Piece}}, list.Span.{Span}}

abbrev pub is_in : Table → Class → ℕ → Bool
is_in t NameByte c = t.is_name_byte c
is_in t Digit c = is_ascii_digit c
is_in t TextByte c = is_text_byte c
is_in t LineByte c = is_line_byte c

abbrev pub plain_form : Form → PlainForm
plain_form Blank = blank
plain_form Comment = comment
plain_form (Token kind) = token (kind_of_token kind)

-- the piece that stands at a, or none where none does
abbrev pub IsPieceAt : Table → List ℕ → ℕ → Option Piece → Type 0
IsPieceAt t bytes a None = NoPiece t bytes a
IsPieceAt t bytes a (Some p) = IsPiece t bytes (plain_form p.form) a p.end

-- the span that is kept of a piece from a to b: that of a token
abbrev pub spans_of_form : Form → ℕ → ℕ → List Span
spans_of_form Blank a b = []
spans_of_form Comment a b = []
spans_of_form (Token kind) a b = record { kind = kind; at = a; len = b - a } ∷ []

abbrev pub spans_of_piece : ℕ → Piece → List Span
spans_of_piece a p = spans_of_form p.form a p.end
