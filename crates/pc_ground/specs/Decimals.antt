-- Decimals without leading zeros.
use Rattle.std.specs.{Prelude.{ℕ, ◌≡◌, ◌+◌, ◌-◌, ◌*◌, ◌≤◌, List, [], ◌∷◌, IsTrue}, Fmt.{decimal}, Str.{all_ascii_digits}}

-- the bytes are what n is written as, and it has at most 64 bits
abbrev pub IsDecimal : List ℕ → ℕ → Type 0
IsDecimal bytes n = (n ≤ 18446744073709551615) × (bytes ≡ decimal n)

-- n with these digits after it
abbrev pub read_on : ℕ → List ℕ → ℕ
read_on n [] = n
read_on n (c ∷ cs) = read_on (10 * n + (c - 48)) cs

-- the bytes are digits, and n is their value
abbrev pub IsDigits : List ℕ → ℕ → Type 0
IsDigits bytes n = IsTrue (all_ascii_digits bytes) × (read_on 0 bytes ≡ n)
