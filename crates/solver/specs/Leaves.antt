-- The leaf of a refutation that a clash gives.
use Rattle.std.specs.Prelude.{ℕ, ◌<◌, List, All}
use Rattle.pc_common.specs.{World.{Node}, Steps.{Leaf, cycle, path, absent, false_step, Step, close}}
use Rattle.order_graph.specs.{Clashes.{leaf_of}, declared.clash.Clash.{Clash}}
use Rattle.solver.specs.Renamed.{node_at, renamed_leaf}

abbrev pub clash_step : List Node → Clash → Step Node
clash_step nodes k = close (renamed_leaf (node_at nodes) (leaf_of k))

-- its nodes are numbers below n
abbrev pub IsLeafBelow : ℕ → Leaf ℕ → Type 0
IsLeafBelow n (cycle ks) = All (λ k. k < n) ks
IsLeafBelow n (path ks) = All (λ k. k < n) ks
IsLeafBelow n (absent k) = k < n
IsLeafBelow n false_step = Unit {0}

abbrev pub IsClashBelow : ℕ → Clash → Type 0
IsClashBelow n k = IsLeafBelow n (leaf_of k)
