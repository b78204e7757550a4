-- The first open branch of a search, with those that wait after it, over the search's tree.
use Rattle.std.specs.Prelude.{◌≡◌, List, [], ◌∷◌, ◌++◌, Option, Some, None, length, take, slice_index}
use Rattle.pc_ground.specs.{declared.version.Version.{Version}, Refutes.{Branch as Positions}}
use Rattle.order_graph.specs.State.{IsCut}
use Rattle.solver.specs.{Numbered.{Numbered}, Spelled.{spelled}, Opens.{positions, opens, KeepsState, state_of}, declared.search.branch.Branch.{Branch}}
use Rattle.solver.specs.declared.{search.later.Later.{Later}, tree.side.Side.{Side}}

-- all open branches
abbrev pub branches_of : Numbered → Branch → List Positions
branches_of t b = opens (spelled t.rows) (positions b.asserted) b.asserted b.later.items

-- the same, where the first one is to assert `more`
abbrev pub branches_with : Numbered → Branch → Positions → List Positions
branches_with t b more = opens (spelled t.rows) (positions b.asserted ++ more) b.asserted b.later.items

-- what is kept of a branch between the steps, where it is to assert `more`
abbrev pub HasOpenBranch : Version → Numbered → Branch → Positions → Type 0
HasOpenBranch v t b more = KeepsState v (state_of t.nodes (spelled t.rows) b.graph b.asserted b.later.items b.refutation) more

-- nothing is asserted, not even the root
pub record IsBlank (t : Numbered) (b : Branch) : Type 0 where
  pub nodes : b.graph.nodes ≡ length t.nodes
  pub literals : b.graph.literals ≡ []
  pub marks : b.graph.marks ≡ []
  pub asserted : b.asserted ≡ []
  pub later : b.later.items ≡ []
  pub steps : b.refutation ≡ []

-- the branches that wait and the steps are as they were
pub record HasSameRest (old new : Branch) : Type 0 where
  pub later : new.later.items ≡ old.later.items
  pub steps : new.refutation ≡ old.refutation

-- the branch that waited last is the first one: it begins with its positions, and with the literals at its mark
pub record IsResumed (old new : Branch) (side : Side) : Type 0 where
  pub next : Later
  pub popped : old.later.items ≡ new.later.items ++ next ∷ []
  pub side_is : next.side ≡ side
  pub positions : new.asserted ≡ take next.count old.asserted
  pub cut : IsCut old.graph (slice_index old.graph.marks next.mark) next.mark new.graph
  pub steps : new.refutation ≡ old.refutation

abbrev pub HasGoneBack : Branch → Branch → Option Side → Type 0
HasGoneBack old new None = (old.later.items ≡ []) × (new.refutation ≡ old.refutation)
HasGoneBack old new (Some side) = IsResumed old new side
