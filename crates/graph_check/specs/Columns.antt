-- Which nodes lead to a node, for the nodes that were asked for.
use Rattle.std.specs.{Prelude.{ℕ, suc, ◌≡◌, ◌<◌, ◌↔◌, Bool, true, false, List, length, Some, slice_get, slice_index, slice_index_or}, Global.{Vec}}
use Rattle.pc_common.specs.Chain.{Chain}
use Rattle.graph_check.specs.{Arcs.{Arcs, Joins}, declared.columns.Columns.{Columns}}

abbrev pub is_set : List Bool → ℕ → Bool
is_set column x = slice_index_or column x false

-- the column has a flag for each node, set where the node leads to b
pub record IsColumn (v : Arcs) (b : ℕ) (column : List Bool) : Type 0 where
  pub sized : length column ≡ length v.heads
  pub flags : (x : ℕ) → x < length v.heads → (is_set column x ≡ true) ↔ Chain (Joins v) x b

-- where a node has a column, it is the node's
pub record AreColumns (v : Arcs) (c : Columns) : Type 0 where
  pub sized : length c.slots.items ≡ length v.heads
  pub known : (b k : ℕ) → slice_index c.slots.items b ≡ suc k
      → (column : Vec Bool) × (slice_get c.columns.items k ≡ Some column) × IsColumn v b column.items
