-- The short name of a name: its number among listed names, in eight bytes.
use Rattle.std.specs.{Prelude.{◌≡◌, ℕ, ◌<◌, true, List, ◌++◌, slice_get, Option, Some, None, replicate}, Borrow.{Bor}, List.{position, list_any}}
use Rattle.std.specs.Int.{w64, to_le_bytes}
use Rattle.pc_common.specs.Names.{same_name}

abbrev pub name_bytes : Bor (List ℕ) → List ℕ
name_bytes name = name.now

-- how many of these names stand before the first that is this one
unfoldable pub number_of : List (List ℕ) → List ℕ → Option ℕ
number_of names name = position (same_name name) names

unfoldable pub number_bytes : ℕ → List ℕ
number_bytes n = to_le_bytes w64 n

-- the first n of these are the bytes of their places
abbrev pub HasNumbers : List (List ℕ) → ℕ → Type 0
HasNumbers shorts n = (k : ℕ) → k < n → slice_get shorts k ≡ Some (number_bytes k)

-- longer than a number's bytes, so that it is the short name of no listed name
abbrev pub unlisted : List ℕ → List ℕ
unlisted name = replicate 9 0 ++ name

unfoldable pub short_name : List (List ℕ) → List ℕ → List ℕ
short_name names name = elim (number_of names name) [ None ↦ unlisted name | Some n ↦ number_bytes n ]

-- one of these names is this one
abbrev pub IsAmong : List (List ℕ) → List ℕ → Type 0
IsAmong names name = list_any (same_name name) names ≡ true
