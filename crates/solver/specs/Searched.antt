-- What a search is seen as, and what it keeps.
use Rattle.std.specs.Prelude.{ℕ, ◌≡◌, ◌<◌, ◌^◌, List, [], ◌∷◌, Some, Contains, length}
use Rattle.pc_common.specs.{World.{Node}, Steps.{Step}}
use Rattle.pc_ground.specs.{declared.{row.Row.{Row}, version.Version.{Version}}, Tree.{Tree}}
use Rattle.pc_ground.specs.Refutes.{Signed, Branch as Positions, subtree_at, literals_of, IsPartial}
use Rattle.order_graph.specs.State.{Graph}
use Rattle.solver.specs.{Spelled.{spelled}, Numbered.{Numbered, HasNoFalse}, Renamed.{tree_over}, Met.{IsMetUnder}, Places.{place_signed, IsCandidate}}
use Rattle.solver.specs.{Opens.{positions}, Branches.{HasOpenBranch}, declared.{tree.place.Place.{Place}, search.branch.Branch.{Branch}}}

pub record Searched : Type 0 where
  -- how its steps are read
  pub version : Version
  -- the nodes by their numbers
  pub nodes : List Node
  -- the rows of the tree over these numbers
  pub rows : List (Row ℕ)
  pub graph : Graph
  pub steps : List (Step Node)
  -- the open branches, the first one first
  pub branches : List Positions

-- the tree over numbers, and over nodes
abbrev pub number_tree : Searched → Tree ℕ
number_tree s = spelled s.rows

abbrev pub searched_tree : Searched → Tree Node
searched_tree s = tree_over s.nodes (number_tree s)

pub record HasUnmetBranch (s : Searched) : Type 0 where
  -- a branch is open
  pub first : Positions
  pub others : List Positions
  pub branches : s.branches ≡ first ∷ others
  -- the steps with the open branches are a partial refutation
  pub partial : IsPartial s.version (searched_tree s) s.steps s.branches
  -- the graph is over the numbers of the nodes, and its literals are those of the first open branch, in order
  pub nodes : s.graph.nodes ≡ length s.nodes
  pub literals : s.graph.literals ≡ literals_of (number_tree s) first
  -- some position of that branch is not true in the world that they generate
  pub place : Signed
  pub part : Tree ℕ
  pub on_branch : Contains first place
  pub at_place : subtree_at (number_tree s) place.position ≡ Some part
  pub not_met : IsMetUnder place.negated s.graph.literals part → ⊥

-- what a search keeps between its turns: its first open branch has this candidate
pub record HasCandidate (v : Version) (t : Numbered) (b : Branch) (first : Place) : Type 0 where
  pub no_false : HasNoFalse t
  pub state : HasOpenBranch v t b []
  pub candidate : IsCandidate (spelled t.rows) (positions b.asserted) (place_signed first)
  pub small : first.position < 2 ^ 63
