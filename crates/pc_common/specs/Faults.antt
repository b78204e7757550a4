-- Counts of calls and faults, which stay at the greatest u64.
use Rattle.std.specs.{Prelude.{◌≢◌, ◌<◌, ◌+◌, ◌==◌, min, ℕ, Bool, true, false, List, [], ◌∷◌}, List.{list_any}}

-- a count rose in a call, or stands at its greatest when the call ends
abbrev pub Rose : ℕ → ℕ → Type 0
Rose old new = new ≢ 18446744073709551615 → old < new

-- one more, at most the greatest u64
abbrev pub one_more : ℕ → ℕ
one_more n = min (n + 1) 18446744073709551615

-- the call of this number is among those that fail
abbrev pub is_listed : List ℕ → ℕ → Bool
is_listed fails number = list_any (λ k. k == number) fails

-- no call fails
abbrev pub is_none_listed : List ℕ → Bool
is_none_listed [] = true
is_none_listed (k ∷ ks) = false
