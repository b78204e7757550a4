-- The row at which a part begins tells its size.
use Rattle.std.{proofs.Common.{◌≡◌, ℕ, List, Some, sym, ◌∙◌, ap}, specs.Prelude.{slice_get}}
use Rattle.pc_common.{specs.World.{Node}, proofs.Places.{one_item}}
use Rattle.pc_ground.{specs.{declared.{node_key.NodeKey.{NodeKey}, row.Row.{Row}}, Keys.{row_node}, Rows.{IsPart}, Tree.{Tree, size_of}}, proofs.FlatRows.{root_of, part_row}}

pub skip_is : (rows : List (Row Node)) (p : ℕ) (r : Row NodeKey) (a : Tree Node) → slice_get rows p ≡ Some (row_node r) → IsPart rows p a → r.skip ≡ size_of a
skip_is rows p r a got part = ap (λ (q : Row Node). q.skip) (one_item (row_node r) (root_of a) (sym got ∙ part_row rows p a part))
