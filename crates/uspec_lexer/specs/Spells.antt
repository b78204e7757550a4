-- What a text spells from a place on: pieces put together up to its end, and those of them that are tokens.
use Rattle.std.specs.Prelude.{◌≡◌, ℕ, ◌<◌, List, [], ◌∷◌, ◌++◌, length, slice_range}
use Rattle.uspec_lexer.specs.{Token.{Token}, Table.{Table}, Models.{models}, Piece.{Form, blank, comment, token, IsPiece, NoPiece}}

pub record Piece : Type 0 where
  pub form : Form
  -- the place after its last byte
  pub end : ℕ

-- the pieces stand one after the other from a to z
abbrev pub Joined : Table → List ℕ → ℕ → List Piece → ℕ → Type 0
Joined t bytes a [] z = a ≡ z
Joined t bytes a (p ∷ ps) z = IsPiece t bytes p.form a p.end × Joined t bytes p.end ps z

-- the token that a piece from a to b is, if it is one
abbrev pub tokens_of_piece : List ℕ → Form → ℕ → ℕ → List Token
tokens_of_piece bytes blank a b = []
tokens_of_piece bytes comment a b = []
tokens_of_piece bytes (token kind) a b = record { kind = kind; at = a; piece = slice_range bytes a b } ∷ []

-- the tokens among pieces of which the first begins at a
abbrev pub tokens_of : List ℕ → ℕ → List Piece → List Token
tokens_of bytes a [] = []
tokens_of bytes a (p ∷ ps) = tokens_of_piece bytes p.form a p.end ++ tokens_of bytes p.end ps

-- from a to z stand pieces whose tokens are these
pub record SpellsBetween (t : Table) (bytes : List ℕ) (a z : ℕ) (ts : List Token) : Type 0 where
  pub pieces : List Piece
  pub joined : Joined t bytes a pieces z
  pub tokens : ts ≡ tokens_of bytes a pieces

-- the text spells these tokens from a place to its end
abbrev pub SpellsFrom : Table → List ℕ → ℕ → List Token → Type 0
SpellsFrom t bytes from ts = SpellsBetween t bytes from (length bytes) ts

-- pieces go from a place up to k, and none begins there
pub record IsFaultFrom (t : Table) (bytes : List ℕ) (from k : ℕ) : Type 0 where
  pub inside : k < length bytes
  pub pieces : List Piece
  pub joined : Joined t bytes from pieces k
  pub none_begins : NoPiece t bytes k

-- a whole model or test spells these tokens
abbrev pub Spells : List ℕ → List Token → Type 0
Spells bytes ts = SpellsFrom models bytes 0 ts

-- it has its lexical fault at k
abbrev pub IsLexicalFault : List ℕ → ℕ → Type 0
IsLexicalFault bytes k = IsFaultFrom models bytes 0 k
