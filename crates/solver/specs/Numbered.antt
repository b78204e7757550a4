-- A tree over the numbers of its nodes.
use Rattle.std.specs.Prelude.{ℕ, ◌≡◌, ◌≤◌, List, Some, All, length}
use Rattle.pc_common.specs.{World.{Node}, declared.limits.TheConstants.{MAX_NODES}}
use Rattle.pc_ground.specs.{declared.row.Row.{Row}, Tree.{never}, Folded.{IsFolded}, Numbers.{AreDistinct}, Refutes.{subtree_at}}
use Rattle.solver.specs.{Spelled.{spelled, IsSpelled}, Below.{IsRowBelow}}

pub record Numbered : Type 0 where
  -- the nodes by their numbers
  pub nodes : List Node
  -- the rows of the tree over these numbers
  pub rows : List (Row ℕ)

-- what such a tree keeps
pub record IsNumbered (t : Numbered) : Type 0 where
  pub tree : IsSpelled t.rows
  pub folded : IsFolded (spelled t.rows)
  pub few : length t.nodes ≤ MAX_NODES
  pub distinct : AreDistinct t.nodes
  pub below : All (IsRowBelow (length t.nodes)) t.rows

-- no position of the tree is False
abbrev pub HasNoFalse : Numbered → Type 0
HasNoFalse t = (p : ℕ) → subtree_at (spelled t.rows) p ≡ Some never → ⊥
