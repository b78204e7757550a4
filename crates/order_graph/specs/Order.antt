-- What the parts of an order graph keep: a table that represents the literals now, and each first part of them at its
-- moment.
use Rattle.std.specs.Prelude.{ℕ, ◌≡◌, ◌≤◌, ◌<◌, ◌+◌, ◌*◌, List, [], length, take, slice_index, slice_index_or}
use Rattle.pc_common.specs.declared.limits.TheConstants.{MAX_NODES}
use Rattle.pc_ground.specs.declared.literal.Literal.{Literal}
use Rattle.undo_trail.specs.BitTable.{BitTable, tables}
use Rattle.order_graph.specs.{State.{words_for, most_words}, Rows.{Represents}, Marks.{marks_from}}

pub record IsOrder (n : ℕ) (v : BitTable) (ls : List (Literal ℕ)) (moments counts : List ℕ) (live : ℕ) : Type 0 where
  pub few : n ≤ MAX_NODES
  pub rows : v.rows ≡ 2 * n + 3
  pub words : v.words ≡ words_for n
  pub moments_all : length moments ≡ length ls + 1
  pub counts_all : length counts ≡ length ls + 1
  pub last : slice_index moments (length ls) ≡ length v.past
  pub rising : (i : ℕ) → i < length ls
      → (slice_index moments i ≤ slice_index moments (i + 1))
      × (slice_index moments (i + 1) ≤ slice_index moments i + most_words n)
  pub represents : (i : ℕ) → i ≤ length ls
      → Represents n v.words (take i ls) (slice_index_or (tables v) (slice_index moments i) [])
  pub lived : live ≡ length (marks_from 0 counts)
