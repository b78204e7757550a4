-- The open values of a pattern: the word `Any` after `( Data`, in the brackets of a read.
use Rattle.std.specs.Prelude.{ℕ, zero, suc, ◌+◌, ◌-◌, ◌≡◌, ◌≤◌, Bool, false, ◌&&◌, ◌||◌, List, [], ◌∷◌, ◌++◌, Option, Some, None, codes, length, slice_get, if◌then◌else◌}
use Rattle.std.specs.Str.{bytes_eq}
use Rattle.uspec_lexer.specs.Token.{Token, place_or}
use Rattle.pattern_reader.specs.declared.opens.{Open.{Open as CodeOpen}, Accesses.{Accesses}}

abbrev pub is_spelled : List ℕ → Option Token → Bool
is_spelled w None = false
is_spelled w (Some t) = bytes_eq t.piece w

-- the token at k is spelled so
abbrev pub stands : List Token → ℕ → List ℕ → Bool
stands ts k w = is_spelled w (slice_get ts k)

-- at k opens the bracket of a micro-op: a read, a write or a fence
unfoldable pub opens_access : List Token → ℕ → Bool
opens_access ts k =
    stands ts k (codes "(")
    && (stands ts (k + 1) (codes "Read") || stands ts (k + 1) (codes "Write") || stands ts (k + 1) (codes "Fence"))

-- at k opens the bracket of a value that is left open
unfoldable pub opens_any : List Token → ℕ → Bool
opens_any ts k = stands ts k (codes "(") && stands ts (k + 1) (codes "Data") && stands ts (k + 2) (codes "Any")

-- whether the last micro-op of the first k tokens is a read
abbrev pub reads : List Token → ℕ → Bool
reads ts zero = false
reads ts (suc k) = if opens_access ts k then stands ts (k + 1) (codes "Read") else reads ts k

-- how many micro-ops open among the first k tokens
abbrev pub accesses : List Token → ℕ → ℕ
accesses ts zero = 0
accesses ts (suc k) = if opens_access ts k then accesses ts k + 1 else accesses ts k

-- an open value: where its word begins, in bytes, and its micro-op, by place in test order
pub record Open : Type 0 where
  pub at : ℕ
  pub op : ℕ

-- the open value at k, if there is one
abbrev pub open_at : List Token → ℕ → List Open
open_at ts k =
    if opens_any ts k && reads ts k
    then record { at = place_or 0 (slice_get ts (k + 2)); op = accesses ts k - 1 } ∷ []
    else []

-- in text order
abbrev pub opens_among : List Token → ℕ → List Open
opens_among ts zero = []
opens_among ts (suc k) = opens_among ts k ++ open_at ts k

abbrev pub opens_in : List Token → List Open
opens_in ts = opens_among ts (length ts)

abbrev pub plain_open : CodeOpen → Open
plain_open o = record { at = o.at.offset; op = o.op }

-- what was seen of the first k tokens
pub record AreSeen (ts : List Token) (k : ℕ) (a : Accesses) : Type 0 where
  pub reading : a.reading ≡ reads ts k
  pub count : a.count ≡ accesses ts k
  pub few : a.count ≤ k
