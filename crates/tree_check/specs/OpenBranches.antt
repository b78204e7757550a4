-- Which open branches a checker stands for, and what a step makes of them.
use Rattle.std.specs.Prelude.{ℕ, ◌≡◌, ◌≤◌, ◌+◌, Bool, true, false, List, [], ◌∷◌, Some, Contains, length, take, reverse}
use Rattle.pc_common.specs.{World.{Node}, Steps.{Step}}
use Rattle.pc_ground.specs.{declared.{row.Row.{Row}, version.Version.{Version}}, Tree.{Tree, turned, size_of}, Rows.{rows_of}}
use Rattle.pc_ground.specs.Refutes.{signed, all_signed, Branch, subtree_at, asserted, IsSplit, Runs}
use Rattle.refutation.specs.BranchFacts.{PlainBranchFact}
use Rattle.tree_check.specs.{Facts.{HasFacts}, Sides.{with_all}, declared.later.Later.{Later}}

-- what a checker is seen as
pub record OpenBranches : Type 0 where
  -- how its steps are read
  pub version : Version
  -- the tree
  pub rows : List (Row Node)
  -- what is known on the first open branch
  pub facts : List PlainBranchFact
  -- the branches that wait, the next one last
  pub later : List Later
  -- whether a branch is open
  pub is_open : Bool

-- the same, of its parts
abbrev pub open_branches : Version → List (Row Node) → List PlainBranchFact → List Later → Bool → OpenBranches
open_branches version rows facts later is_open =
    record { version = version; rows = rows; facts = facts; later = later; is_open = is_open }

-- with a position, all that the part there asserts is on the branch
abbrev pub IsClosedUnderAnd : Tree Node → Branch → Type 0
IsClosedUnderAnd t ps =
    (negated : Bool) (p q : ℕ) (s : Tree Node)
    → Contains ps (signed negated p) → subtree_at (turned negated t) p ≡ Some s → Contains (asserted s p) q
    → Contains ps (signed negated q)

-- these are the facts of the branch, and they are closed under And
abbrev pub IsBranch : Tree Node → List PlainBranchFact → Branch → Type 0
IsBranch t facts ps = HasFacts t facts ps × IsClosedUnderAnd t ps

-- a waiting branch: one that has the first facts, with one side more
pub record IsLater (t : Tree Node) (facts : List PlainBranchFact) (l : Later) (qs : Branch) : Type 0 where
  pub before : Branch
  pub within : l.facts ≤ length facts
  pub first : IsBranch t (take l.facts facts) before
  pub all : qs ≡ with_all t before l.side

-- the waiting branches, the next one first
abbrev pub AreLater : Tree Node → List PlainBranchFact → List Later → List Branch → Type 0
AreLater t facts [] [] = Unit {0}
AreLater t facts [] (qs ∷ opens) = ⊥
AreLater t facts (l ∷ ls) [] = ⊥
AreLater t facts (l ∷ ls) (qs ∷ opens) = IsLater t facts l qs × AreLater t (take l.facts facts) ls opens

-- the open branches: none where the flag says so, and else the first one, with those that wait
abbrev pub AreOpen : Tree Node → Bool → List PlainBranchFact → List Later → List Branch → Type 0
AreOpen t false facts ls opens = opens ≡ []
AreOpen t true facts ls [] = ⊥
AreOpen t true facts ls (ps ∷ opens) = IsBranch t facts ps × AreLater t facts ls opens

-- the checker is one of this version and tree, and these are the open branches
pub record Stands (o : OpenBranches) (v : Version) (t : Tree Node) (opens : List Branch) : Type 0 where
  pub version : o.version ≡ v
  pub rows : o.rows ≡ rows_of t
  pub are_open : AreOpen t o.is_open o.facts (reverse o.later) opens

-- the checker is one of this version and of each tree with these rows, whose root's branch is the one that is open
abbrev pub StandsAtRoot : Version → List (Row Node) → OpenBranches → Type 0
StandsAtRoot v rows o = (t : Tree Node) → rows ≡ rows_of t → Stands o v t (all_signed false (asserted t 0) ∷ [])

-- an Or is asserted at the signed position, whose children stand at left and right
pub record AreSides (t : Tree Node) (ps : Branch) (negated : Bool) (p left right : ℕ) : Type 0 where
  pub first : Tree Node
  pub second : Tree Node
  pub is_split : IsSplit t ps negated p first second
  pub at_left : left ≡ p + 1
  pub at_right : right ≡ p + 1 + size_of first

-- what came of a step: where it is good, the checker stands for the branches that it leads to; else it leads to none
abbrev pub HasStepped : Version → Tree Node → Step Node → List Branch → OpenBranches → Bool → Type 0
HasStepped v t s opens new true = (next : List Branch) × Runs v t (s ∷ []) opens next × Stands new v t next
HasStepped v t s opens new false = (next : List Branch) → Runs v t (s ∷ []) opens next → ⊥

-- that came of the step, from whichever branches the old checker stands for
abbrev pub HasTakenStep : OpenBranches → Step Node → OpenBranches → Bool → Type 0
HasTakenStep old s new good =
    (v : Version) (t : Tree Node) (opens : List Branch) → Stands old v t opens → HasStepped v t s opens new good
