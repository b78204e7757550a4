-- What a row of nodes is seen as.
use Rattle.std.specs.Prelude.{ℕ, List}
use Rattle.pc_common.specs.World.{Node}

pub record Row : Type 0 where
  pub nodes : List Node
  -- how many nodes its room takes in all
  pub spare : ℕ
