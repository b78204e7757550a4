-- A table of words with all tables that came before it, one for each word that was changed.
use Rattle.std.specs.Prelude.{ℕ, Bool, true, List, [], ◌∷◌, ◌++◌, ◌≡◌, ◌≢◌, ◌<◌, ◌≤◌, ◌+◌, ◌*◌, ◌&&◌, ◌||◌, ◌==◌, if◌then◌else◌, length, take, replicate, slice_get, slice_index, slice_set, Some}
use Rattle.undo_trail.specs.Bits.{has}

pub record BitTable : Type 0 where
  pub rows : ℕ
  -- how many words a row has
  pub words : ℕ
  -- the tables before, oldest first
  pub past : List (List ℕ)
  pub now : List ℕ
  -- how many words can be recorded before the trail takes memory
  pub room : ℕ

-- no bit is set, and no table came before
abbrev pub clear_table : ℕ → ℕ → ℕ → BitTable
clear_table rows words room =
    record { rows = rows; words = words; past = []; now = replicate (rows * words) 0; room = room }

-- all tables; a mark is a place in this list
abbrev pub tables : BitTable → List (List ℕ)
tables v = v.past ++ v.now ∷ []

-- the same bits and the same tables before them, with other room
abbrev pub IsSameTable : BitTable → BitTable → Type 0
IsSameTable old new = new ≡ record {
  rows = old.rows;
  words = old.words;
  past = old.past;
  now = old.now;
  room = new.room;
}

abbrev pub bit_now : BitTable → ℕ → ℕ → Bool
bit_now v r c = has v.words v.now r c

-- the second table differs from the first in one word
pub record IsOneWordOn (t u : List ℕ) : Type 0 where
  pub place : ℕ
  pub inside : place < length t
  pub is : u ≡ slice_set t place (slice_index u place)
  pub differs : slice_index u place ≢ slice_index t place

-- each table and the next differ in one word
abbrev pub IsHistory : List (List ℕ) → Type 0
IsHistory [] = Unit {0}
IsHistory (t ∷ []) = Unit {0}
IsHistory (t ∷ u ∷ us) = IsOneWordOn t u × IsHistory (u ∷ us)

-- the first table is clear, and each has a word for each place
pub record IsBitTable (v : BitTable) : Type 0 where
  pub first : slice_get (tables v) 0 ≡ Some (replicate (v.rows * v.words) 0)
  pub history : IsHistory (tables v)
  pub size : length v.now ≡ v.rows * v.words

-- the tables that were there stay, and at most n follow them
pub record Extends (old new : BitTable) (n : ℕ) : Type 0 where
  pub same_rows : new.rows ≡ old.rows
  pub same_words : new.words ≡ old.words
  pub same_tables : take (length old.past + 1) (tables new) ≡ tables old
  pub at_least : length old.past ≤ length new.past
  pub at_most : length new.past ≤ length old.past + n

-- that bit is set, and no other changed
abbrev pub HasSet : BitTable → BitTable → ℕ → ℕ → Type 0
HasSet old new r c = (q d : ℕ) → q < old.rows → d < 64 * old.words
    → bit_now new q d ≡ (if (q == r) && (d == c) then true else bit_now old q d)

-- row dst has its bits and those of row src, and no other row changed
abbrev pub HasJoined : BitTable → BitTable → ℕ → ℕ → Type 0
HasJoined old new dst src = (q d : ℕ) → q < old.rows → d < 64 * old.words
    → bit_now new q d ≡ (if q == dst then bit_now old q d || bit_now old src d else bit_now old q d)
