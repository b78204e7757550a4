-- What a search finds on its open branches.
use Rattle.std.specs.Prelude.{ℕ, ◌+◌, []}
use Rattle.pc_ground.specs.{declared.version.Version.{Version}, Refutes.{IsPartial}}
use Rattle.solver.specs.{Numbered.{Numbered}, Spelled.{spelled}, Renamed.{tree_over}, Branches.{branches_of}, Searched.{HasCandidate}, Answers.{IsWitness}}
use Rattle.solver.specs.{Weights.{weight}, declared.{search.branch.Branch.{Branch}, search.find.SearchStatus.{SearchStatus, TheVariants.{Refuted, Satisfied, Undecided}}}}

abbrev pub IsStatus : Version → Numbered → Branch → SearchStatus → Type 0
IsStatus v t b Refuted = IsPartial v (tree_over t.nodes (spelled t.rows)) b.refutation []
IsStatus v t b (Satisfied shown) = IsWitness t.nodes (tree_over t.nodes (spelled t.rows)) shown
IsStatus v t b (Undecided first) = HasCandidate v t b first

-- how far the search is from its end
abbrev pub status_weight : Numbered → Branch → SearchStatus → ℕ
status_weight t b Refuted = 0
status_weight t b (Satisfied shown) = 0
status_weight t b (Undecided first) = 1 + weight (spelled t.rows) (branches_of t b)
