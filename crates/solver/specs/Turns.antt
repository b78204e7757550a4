-- What a turn of a search hands out.
use Rattle.std.specs.Prelude.{ℕ, ◌≡◌, ◌+◌, List}
use Rattle.pc_common.specs.{World.{Node}, Steps.{Step}}
use Rattle.pc_ground.specs.{declared.{row.Row.{Row}, version.Version.{Version}}, Tree.{Tree}}
use Rattle.solver.specs.{Searched.{number_tree, searched_tree, HasUnmetBranch}, Answers.{IsAnswer}, Weights.{weight}, Renamed.{tree_over}, Spelled.{spelled}}
use Rattle.solver.specs.declared.search.Turn.{Turn, TheVariants.{More, Done}}

-- how far a turn is from the end of the search
abbrev pub turn_weight : Turn → ℕ
turn_weight (More s) = 1 + weight (number_tree s) s.branches
turn_weight (Done a) = 0

-- a search of this version over these nodes and rows that goes on, or its answer
abbrev pub IsTurnOfRows : Version → List Node → List (Row ℕ) → Turn → Type 0
IsTurnOfRows v nodes rows (More s) = (s.version ≡ v) × (s.nodes ≡ nodes) × (s.rows ≡ rows) × HasUnmetBranch s
IsTurnOfRows v nodes rows (Done a) = IsAnswer v nodes (tree_over nodes (spelled rows)) a

-- the same over the tree itself
abbrev pub IsTurnOfTree : Version → List Node → Tree Node → Turn → Type 0
IsTurnOfTree v nodes t (More s) = (s.version ≡ v) × (s.nodes ≡ nodes) × (searched_tree s ≡ t) × HasUnmetBranch s
IsTurnOfTree v nodes t (Done a) = IsAnswer v nodes t a

-- where the search goes on, its steps go on from these
abbrev pub GoesOn : (List (Step Node) → List (Step Node) → Type 0) → List (Step Node) → Turn → Type 0
GoesOn R old (More s) = R old s.steps
GoesOn R old (Done a) = Unit {0}
