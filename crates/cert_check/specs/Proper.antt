-- Lines that can be written and read again, and what a question's names and tree keep.
use Rattle.std.specs.Prelude.{◌≡◌, ◌<◌, List, Contains}
use Rattle.pc_common.specs.World.{Node}
use Rattle.pc_ground.specs.{NodeForm.{IsNodeIn, AreReadable}, Tree.{size_of}, Numbers.{nodes_of_tree}, Rows.{rows_of}, declared.row.Row.{Row}}
use Rattle.cert_check.specs.Certificates.{Question}

-- no two nodes have one text, each node of the tree can be written, and the tree's positions have at most 64 bits
pub record IsAsked (q : Question) : Type 0 where
  pub readable : AreReadable q.names
  pub named : (a : Node) → Contains (nodes_of_tree q.tree) a → IsNodeIn q.names a
  pub small : size_of q.tree < 9223372036854775808

-- so it is asked, and these are its tree's rows
pub record IsGrounded (q : Question) (rows : List (Row Node)) : Type 0 where
  pub asked : IsAsked q
  pub rows_are : rows ≡ rows_of q.tree
