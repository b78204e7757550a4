-- The steps of a refutation, over nodes of any kind.
use Rattle.std.specs.Prelude.{ℕ, Bool, List}

-- what closes a branch
pub data Leaf (N : Type 0) : Type 0 where
  cycle : List N → Leaf N
  path : List N → Leaf N
  absent : N → Leaf N
  false_step : Leaf N

-- a split of a position, under the sign `~` or not, or a leaf, which closes the branch
pub data Step (N : Type 0) : Type 0 where
  split : Bool → ℕ → Step N
  close : Leaf N → Step N
