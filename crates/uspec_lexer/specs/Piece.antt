-- The pieces that a text is cut into, each from a place up to the place after its last byte: of those that may begin
-- at a place, the longest. Bytes are read by place, 0 past a text's end.
use Rattle.std.specs.Prelude.{◌≡◌, ℕ, ◌+◌, ◌-◌, ◌==◌, ◌<◌, ◌≤◌, ◌⊎◌, Bool, ◌&&◌, IsTrue, IsFalse, List, length, slice_index, slice_range, if◌then◌else◌}
use Rattle.std.specs.Char.{is_ascii_alphabetic, is_ascii_digit}
use Rattle.uspec_lexer.specs.{Token.{Kind, name, number, text, symbol}, Bytes.{is_blank, is_text_byte, is_line_byte, number_value}, Table.{Table}}
use Rattle.uspec_lexer.specs.declared.grammar.Opening.{Opening, TheVariants.{Blank, LineComment, BlockComment, Name, Number, Text, ShortSymbol, LongSymbol}}

pub data Form : Type 0 where
  blank : Form
  comment : Form
  token : Kind → Form

-- what a byte begins with the one after it
abbrev pub opening_of : Table → ℕ → ℕ → Opening
opening_of t c d =
    if is_blank c then Blank
    else if is_ascii_alphabetic c then Name
    else if is_ascii_digit c then Number
    else if (c == 0x28) && (d == 0x2A) then BlockComment
    else t.opening c d

-- what begins at a
unfoldable pub opening_at : Table → List ℕ → ℕ → Opening
opening_at t bytes a = opening_of t (slice_index bytes a) (slice_index bytes (a + 1))

-- the longest run of bytes of a class from a, which may have none, ends at b
pub record IsRun (is_in : ℕ → Bool) (bytes : List ℕ) (a b : ℕ) : Type 0 where
  pub rises : a ≤ b
  pub within : b ≤ length bytes
  pub inside : (i : ℕ) → a ≤ i → i < b → IsTrue (is_in (slice_index bytes i))
  pub longest : b < length bytes → IsFalse (is_in (slice_index bytes b))

-- *) stands at i
abbrev pub ClosesBlock : List ℕ → ℕ → Type 0
ClosesBlock bytes i = (slice_index bytes i ≡ 0x2A) × (slice_index bytes (i + 1) ≡ 0x29)

-- two bytes at a up to the first *) that begins after them
pub record IsBlockComment (bytes : List ℕ) (a b : ℕ) : Type 0 where
  pub room : a + 4 ≤ b
  pub closes : ClosesBlock bytes (b - 2)
  pub first : (i : ℕ) → a + 2 ≤ i → i + 2 < b → ¬ ClosesBlock bytes i

-- a byte at a, text bytes, and a double quote
pub record IsText (bytes : List ℕ) (a b : ℕ) : Type 0 where
  pub quote : ℕ
  pub inside : IsRun is_text_byte bytes (a + 1) quote
  pub closes : slice_index bytes quote ≡ 0x22
  pub ends : b ≡ quote + 1

-- a byte at a and digits, of this value, which fits 64 bits
pub record IsNumber (bytes : List ℕ) (a b value : ℕ) : Type 0 where
  pub digits : IsRun is_ascii_digit bytes (a + 1) b
  pub is : value ≡ number_value (slice_range bytes a b)
  pub fits : value ≤ 18446744073709551615

-- a piece of this form stands from a to b
abbrev pub IsPiece : Table → List ℕ → Form → ℕ → ℕ → Type 0
IsPiece t bytes blank a b = (opening_at t bytes a ≡ Blank) × (b ≡ a + 1) × (b ≤ length bytes)
IsPiece t bytes comment a b =
    ((opening_at t bytes a ≡ LineComment) × IsRun is_line_byte bytes (a + 1) b)
    ⊎ ((opening_at t bytes a ≡ BlockComment) × IsBlockComment bytes a b)
IsPiece t bytes (token name) a b = (opening_at t bytes a ≡ Name) × IsRun t.is_name_byte bytes (a + 1) b
IsPiece t bytes (token (number value)) a b = (opening_at t bytes a ≡ Number) × IsNumber bytes a b value
IsPiece t bytes (token text) a b = (opening_at t bytes a ≡ Text) × IsText bytes a b
IsPiece t bytes (token symbol) a b =
    ((opening_at t bytes a ≡ ShortSymbol) × (b ≡ a + 1) × (b ≤ length bytes))
    ⊎ ((opening_at t bytes a ≡ LongSymbol) × (b ≡ a + 2) × (b ≤ length bytes))

-- no piece begins at a
abbrev pub NoPiece : Table → List ℕ → ℕ → Type 0
NoPiece t bytes a = (form : Form) (b : ℕ) → ¬ IsPiece t bytes form a b
