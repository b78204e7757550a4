-- What holds of every text, from any place in it.
use Rattle.std.specs.Prelude.{◌≡◌, ◌⊎◌, ℕ, ◌+◌, ◌<◌, ◌≤◌, List, Some, length, slice_get, slice_range}
use Rattle.uspec_lexer.specs.{Token.{Token}, Table.{Table}, Piece.{token, IsPiece}, Spells.{SpellsFrom, IsFaultFrom}}

abbrev pub HasTokensOrFault : Table → List ℕ → ℕ → Type 0
HasTokensOrFault t bytes from =
    from ≤ length bytes → ((ts : List Token) × SpellsFrom t bytes from ts) ⊎ ((k : ℕ) × IsFaultFrom t bytes from k)

abbrev pub HasOneList : Table → List ℕ → ℕ → Type 0
HasOneList t bytes from = (ts us : List Token) → SpellsFrom t bytes from ts → SpellsFrom t bytes from us → ts ≡ us

abbrev pub HasOneFault : Table → List ℕ → ℕ → Type 0
HasOneFault t bytes from = (j k : ℕ) → IsFaultFrom t bytes from j → IsFaultFrom t bytes from k → j ≡ k

-- not both
abbrev pub TokensExcludeFault : Table → List ℕ → ℕ → Type 0
TokensExcludeFault t bytes from = (ts : List Token) (k : ℕ) → SpellsFrom t bytes from ts → IsFaultFrom t bytes from k → ⊥

-- the token is a piece of the text, with the bytes of that piece
pub record IsTokenOf (t : Table) (bytes : List ℕ) (x : Token) : Type 0 where
  pub stands : IsPiece t bytes (token x.kind) x.at (x.at + length x.piece)
  pub is : x.piece ≡ slice_range bytes x.at (x.at + length x.piece)

-- each token is a piece
abbrev pub ArePieces : Table → List ℕ → ℕ → Type 0
ArePieces t bytes from =
    (ts : List Token) (k : ℕ) (x : Token) → SpellsFrom t bytes from ts → slice_get ts k ≡ Some x → IsTokenOf t bytes x

-- and begins where every earlier one has ended
abbrev pub AreInOrder : Table → List ℕ → ℕ → Type 0
AreInOrder t bytes from =
    (ts : List Token) (j k : ℕ) (x y : Token) → SpellsFrom t bytes from ts → slice_get ts j ≡ Some x → slice_get ts k ≡ Some y
    → j < k
    → x.at + length x.piece ≤ y.at

-- there are no more tokens than bytes
abbrev pub AreFew : Table → List ℕ → ℕ → Type 0
AreFew t bytes from = (ts : List Token) → SpellsFrom t bytes from ts → length ts ≤ length bytes
