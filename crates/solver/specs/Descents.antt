-- What comes of entering a side, and of the branches that wait after it.
use Rattle.std.specs.Prelude.{ℕ, ◌≡◌, ◌<◌, Bool, true, false, List, [], ◌∷◌, ◌++◌}
use Rattle.pc_common.specs.{World.{Node}, Steps.{Step}}
use Rattle.pc_ground.specs.{declared.version.Version.{Version}, Refutes.{IsPartial}}
use Rattle.solver.specs.{Numbered.{Numbered}, Spelled.{spelled}, Renamed.{tree_over}, Branches.{branches_with, HasOpenBranch}, Weights.{weight}}
use Rattle.solver.specs.declared.search.branch.Branch.{Branch}

-- a branch is open, and what is open weighs less than `most`; or all are closed
abbrev pub HasDescended : Version → Numbered → ℕ → Branch → Bool → Type 0
HasDescended v t most b true = HasOpenBranch v t b [] × (weight (spelled t.rows) (branches_with t b []) < most)
HasDescended v t most b false = IsPartial v (tree_over t.nodes (spelled t.rows)) b.refutation []

-- the steps begin with those there were
abbrev pub IsLonger : List (Step Node) → List (Step Node) → Type 0
IsLonger old new = (more : List (Step Node)) × (new ≡ old ++ more)

-- and with at least one more
abbrev pub HasMore : List (Step Node) → List (Step Node) → Type 0
HasMore old new = (s : Step Node) × (more : List (Step Node)) × (new ≡ old ++ s ∷ more)
