-- A trail of changes: what each changed word held before, oldest first.
use Rattle.std.specs.Prelude.{ℕ, List, [], ◌∷◌, ◌≡◌, ◌≢◌, ◌<◌, ◌+◌, length, replicate, slice_set, slice_index, bit_or, All}
use Rattle.undo_trail.specs.{declared.trail.Change.{Change}, BitTable.{BitTable, Extends}}

-- a table with the changes taken back, newest first
abbrev pub back : List Change → List ℕ → List ℕ
back [] t = t
back (c ∷ cs) t = slice_set (back cs t) c.place c.old

-- the tables before each change
abbrev pub past : List Change → List ℕ → List (List ℕ)
past [] t = []
past (c ∷ cs) t = back (c ∷ cs) t ∷ past cs t

-- each change changed its word
abbrev pub IsChanging : List Change → List ℕ → Type 0
IsChanging [] t = Unit {0}
IsChanging (c ∷ cs) t = (c.old ≢ slice_index (back cs t) c.place) × IsChanging cs t

abbrev pub table_of : ℕ → ℕ → ℕ → List Change → List ℕ → BitTable
table_of rows words room trail t = record { rows = rows; words = words; past = past trail t; now = t; room = room }

-- so many words at `to` have their bits and those of the words at `from`, one by one
abbrev pub JoinsWords : List ℕ → List ℕ → ℕ → ℕ → ℕ → Type 0
JoinsWords old new to from words = (k : ℕ) → k < words
    → slice_index new (to + k) ≡ bit_or (slice_index old (to + k)) (slice_index old (from + k))

-- what the trail of a table of so many words keeps
pub record IsTrail (size : ℕ) (trail : List Change) (t : List ℕ) : Type 0 where
  pub all : length t ≡ size
  pub inside : All (λ c. c.place < size) trail
  pub changing : IsChanging trail t
  pub cleared : back trail t ≡ replicate size 0

-- at most n words changed, each with its change after the trail
pub record Grows (old : List Change) (t : List ℕ) (new : List Change) (u : List ℕ) (n : ℕ) : Type 0 where
  pub same_size : length u ≡ length t
  pub keeps : (size : ℕ) → IsTrail size old t → IsTrail size new u
  pub extends : (rows words room left : ℕ) → Extends (table_of rows words room old t) (table_of rows words left new u) n
