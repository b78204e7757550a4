-- The branches that a search has open, and what the search keeps of them.
use Rattle.std.specs.Prelude.{ℕ, ◌≡◌, ◌<◌, ◌≤◌, ◌+◌, List, [], ◌∷◌, ◌++◌, Option, Some, None, length, map, take, reverse, slice_index}
use Rattle.pc_common.specs.{World.{Node}, Steps.{Step}}
use Rattle.pc_ground.specs.{declared.{row.Row.{Row}, version.Version.{Version}}, Tree.{Tree}, Rows.{literals_of_kind}, Refutes.{Branch, literals_of, IsPartial}}
use Rattle.order_graph.specs.{State.{Graph}, Clashes.{IsClash}, declared.clash.{Clash.{Clash}, Added.{Added, TheVariants.{Kept as was_kept, Clash as clashed}}}}
use Rattle.solver.specs.{Renamed.{tree_over}, Places.{place_signed, side_positions, IsSideIn}, declared.{tree.place.Place.{Place}, search.later.Later.{Later}}}

abbrev pub positions : List Place → Branch
positions xs = map place_signed xs

-- the branches that wait, the next one first: each has a first part of the branch before it, and a side
abbrev pub waiting : {N : Type 0} → Tree N → Branch → List Later → List Branch
waiting t ps [] = []
waiting t ps (l ∷ ls) = (take l.count ps ++ side_positions t l.side) ∷ waiting t (take l.count ps) ls

-- a waiting branch has a first part of this branch, and a mark of that part's literals
pub record IsLater (t : Tree ℕ) (ps : Branch) (marks : List ℕ) (l : Later) : Type 0 where
  pub count : l.count ≤ length ps
  pub live : l.mark < length marks
  pub literals : slice_index marks l.mark ≡ length (literals_of t (take l.count ps))
  pub side : IsSideIn t l.side

abbrev pub AreLater : Tree ℕ → Branch → List ℕ → List Later → Type 0
AreLater t ps marks [] = Unit {0}
AreLater t ps marks (l ∷ ls) = IsLater t ps marks l × AreLater t (take l.count ps) (take (l.mark + 1) marks) ls

-- all open branches, where the first one has these positions
abbrev pub opens : {N : Type 0} → Tree N → Branch → List Place → List Later → List Branch
opens t ps asserted later = ps ∷ waiting t (positions asserted) (reverse later)

-- what a search has between its steps
pub record SearchState : Type 0 where
  pub nodes : List Node
  pub tree : Tree ℕ
  pub graph : Graph
  pub asserted : List Place
  pub later : List Later
  pub steps : List (Step Node)

abbrev pub state_of : List Node → Tree ℕ → Graph → List Place → List Later → List (Step Node) → SearchState
state_of ns t g ps ls ss = record { nodes = ns; tree = t; graph = g; asserted = ps; later = ls; steps = ss }

-- it fits together; the first open branch has the asserted positions and those of `more`
pub record KeepsState (v : Version) (s : SearchState) (more : Branch) : Type 0 where
  pub literals : s.graph.literals ≡ literals_of s.tree (positions s.asserted)
  pub all_nodes : s.graph.nodes ≡ length s.nodes
  pub marks : length s.graph.marks ≤ length s.steps
  pub waits : AreLater s.tree (positions s.asserted) s.graph.marks (reverse s.later)
  pub partial :
      IsPartial v (tree_over s.nodes s.tree) s.steps (opens s.tree (positions s.asserted ++ more) s.asserted s.later)

-- literals were put after those there were
pub record IsFurther (old new : Graph) : Type 0 where
  pub same_nodes : new.nodes ≡ old.nodes
  pub same_marks : new.marks ≡ old.marks
  pub literals : take (length old.literals) new.literals ≡ old.literals

-- what came of asserting these positions: they are all asserted, or their literals clash with those before
abbrev pub HasAsserted : Tree ℕ → Branch → List Place → Graph → List Place → Option Clash → Type 0
HasAsserted t more old graph new None = (positions new ≡ positions old ++ more) × (graph.literals ≡ literals_of t (positions new))
HasAsserted t more old graph new (Some k) = IsClash (literals_of t (positions old ++ more)) k

-- what came of asserting the literal of a row, if it is one's: it is the last one, or it clashes with those before
abbrev pub HasAddedRow : Row ℕ → Graph → Graph → Added → Type 0
HasAddedRow r old new was_kept = IsFurther old new × (new.literals ≡ old.literals ++ literals_of_kind r.kind)
HasAddedRow r old new (clashed k) = IsFurther old new × IsClash (old.literals ++ literals_of_kind r.kind) k

-- what came of asserting one row: its literal is the last one, or it clashes with those before
abbrev pub HasAssertedRow : Row ℕ → Place → Graph → List Place → Graph → List Place → Option Clash → Type 0
HasAssertedRow r p old before graph new None = (new ≡ before ++ p ∷ []) × (graph.literals ≡ old.literals ++ literals_of_kind r.kind)
HasAssertedRow r p old before graph new (Some k) = (new ≡ before) × IsClash (old.literals ++ literals_of_kind r.kind) k

pub record IsSame (old new : Graph) : Type 0 where
  pub same_nodes : new.nodes ≡ old.nodes
  pub same_literals : new.literals ≡ old.literals
  pub same_marks : new.marks ≡ old.marks

-- the mark is the last one, and of the literals that there are
pub record IsMarked (g : Graph) (mark : ℕ) : Type 0 where
  pub last : mark + 1 ≡ length g.marks
  pub literals : slice_index g.marks mark ≡ length g.literals
