-- Bits in a list of words, and in a table whose rows are so many words each: columns go by 64 to a word, lowest bit
-- first.
use Rattle.std.specs.Prelude.{ℕ, Bool, true, false, List, ◌≡◌, ◌≢◌, ◌<◌, ◌+◌, ◌*◌, ◌/◌, ◌%◌, ◌==◌, length, slice_index, bit_and, EachIndex, SomeIndex}
use Rattle.std.specs.Int.{bit_at}

-- bit i of a word
abbrev pub bit_in : ℕ → ℕ → Bool
bit_in w i = bit_at w i == 1

-- column c of one row
unfoldable pub column : List ℕ → ℕ → Bool
column ws c = bit_in (slice_index ws (c / 64)) (c % 64)

-- row r and column c of a table
unfoldable pub has : ℕ → List ℕ → ℕ → ℕ → Bool
has words t r c = bit_in (slice_index t (r * words + c / 64)) (c % 64)

-- some word of one row has a bit in common with the word at the same place of the other
abbrev pub ShareBit : List ℕ → List ℕ → Type 0
ShareBit a b = SomeIndex a (λ k. bit_and (slice_index a k) (slice_index b k) ≢ 0)

-- no word has
abbrev pub ShareNoBit : List ℕ → List ℕ → Type 0
ShareNoBit a b = EachIndex a (λ k. bit_and (slice_index a k) (slice_index b k) ≡ 0)

-- some column is set in both rows
abbrev pub ShareColumn : List ℕ → List ℕ → Type 0
ShareColumn a b = (c : ℕ) × (c < 64 * length a) × (column a c ≡ true) × (column b c ≡ true)

-- no column is
abbrev pub ShareNoColumn : List ℕ → List ℕ → Type 0
ShareNoColumn a b = (c : ℕ) → c < 64 * length a → column a c ≡ true → column b c ≡ false
