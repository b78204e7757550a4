-- How far a refutation of the ground tree was followed.
use Rattle.std.specs.Prelude.{ℕ, ◌≡◌, Bool, true, false, List, [], ◌∷◌, ◌++◌, Some, take, reverse}
use Rattle.pc_common.specs.{Case.{Case}, World.{Node}, Steps.{Step}}
use Rattle.pc_ground.specs.{declared.{row.Row.{Row}, version.Version.TheVariants.{One}}, Tree.{Tree, never, either}, Rows.{rows_of}}
use Rattle.pc_ground.specs.Refutes.{Branch as TreeBranch, Runs as TreeRuns, subtree_at, left_branch, right_branch}
use Rattle.lifted_facts.specs.{PlainFacts.{Branch}, Lifted.{LiftedLeaf, LiftedStep, close, Closes as LiftedCloses, Runs}}
use Rattle.lifter.specs.{declared.state.{Later.{Later}, State.{State}}, KnownFacts.{Entry, AreKnown}}
use Rattle.lifter.specs.States.{branch_of, waiting, AreLater, IsGoodState, IsCovered, IsSide, AreMatched, IsMatchedState}

-- an open branch of the ground tree is followed on the first branch, and the others on those that wait
pub record FollowsBranches (c : Case) (rows : List (Row Node)) (start : List Branch) (s : State) (opens : List TreeBranch) : Type 0 where
  pub first : TreeBranch
  pub rest : List TreeBranch
  pub are : opens ≡ first ∷ rest
  pub good : IsGoodState c rows start s
  pub covered : IsCovered rows s.known first
  pub matched : IsMatchedState c rows s rest

-- these branches of the ground tree are followed; none is left where the flag says so
abbrev pub HasFollowed : Case → List (Row Node) → List Branch → State → Bool → List TreeBranch → Type 0
HasFollowed c rows start s true opens = FollowsBranches c rows start s opens
HasFollowed c rows start s false opens = (opens ≡ []) × Runs c s.steps start []

-- these steps of a refutation are left
pub record HasStepsLeft (c : Case) (rows : List (Row Node)) (start : List Branch) (s : State) (is_open : Bool) (steps : List (Step Node)) : Type 0 where
  pub tree : Tree Node
  pub spelled : rows ≡ rows_of tree
  pub is_some : tree ≡ never → ⊥
  pub opens : List TreeBranch
  pub run : TreeRuns One tree steps opens []
  pub at : HasFollowed c rows start s is_open opens

-- some steps are left, and the first of them is this one
abbrev pub IsNextStep : Case → List (Row Node) → State → Step Node → Type 0
IsNextStep c rows s step =
    (start : List Branch) × (rest : List (Step Node)) × HasStepsLeft c rows start s true (step ∷ rest)

-- where the next step is this one, the steps behind it are left afterwards
abbrev pub HasTakenStep : Case → List (Row Node) → State → State → Step Node → Bool → Type 0
HasTakenStep c rows old new step is_open =
    (start : List Branch) (rest : List (Step Node))
    → HasStepsLeft c rows start old true (step ∷ rest) → HasStepsLeft c rows start new is_open rest

-- the first branch is closed: the steps lead to those that wait
pub record HasClosedFirst (c : Case) (rows : List (Row Node)) (start : List Branch) (b : Branch) (es : List Entry)
    (ls : List Later) (steps : List LiftedStep) (opens : List TreeBranch) : Type 0 where
  pub run : Runs c steps start (waiting b ls)
  pub later : AreLater c rows b es ls
  pub matched : AreMatched c rows es ls opens

abbrev pub LeavesWaiting : Case → List (Row Node) → List Branch → State → List TreeBranch → Type 0
LeavesWaiting c rows start s opens = HasClosedFirst c rows start (branch_of s) s.known (reverse s.later.items) s.steps opens

-- some branches wait to be followed
abbrev pub AreWaiting : Case → List (Row Node) → State → Type 0
AreWaiting c rows s = (start : List Branch) × (opens : List TreeBranch) × LeavesWaiting c rows start s opens

-- those that waited are followed
abbrev pub HasGoneOn : Case → List (Row Node) → State → State → Bool → Type 0
HasGoneOn c rows old new is_open =
    (start : List Branch) (opens : List TreeBranch)
    → LeavesWaiting c rows start old opens → HasFollowed c rows start new is_open opens

-- the next waiting branch has a side to take, whose root stands at p
pub record CanEnterNext (c : Case) (rows : List (Row Node)) (start : List Branch) (b : Branch) (es : List Entry) (l : Later)
    (ls : List Later) (steps : List LiftedStep) (p : ℕ) (ps : TreeBranch) (rest : List TreeBranch) : Type 0 where
  pub run : Runs c steps start (waiting b (l ∷ ls))
  pub later : AreLater c rows b es (l ∷ ls)
  pub takes : IsSide c rows (take l.known es) l p ps
  pub matched : AreMatched c rows (take l.known es) ls rest

abbrev pub CanEnter : Case → List (Row Node) → List Branch → State → Later → ℕ → TreeBranch → List TreeBranch → Type 0
CanEnter c rows start s l p ps rest = CanEnterNext c rows start (branch_of s) s.known l (reverse s.later.items) s.steps p ps rest

-- some branch can be entered so
abbrev pub CanBeEntered : Case → List (Row Node) → State → Later → ℕ → Type 0
CanBeEntered c rows s l p =
    (start : List Branch) × (ps : TreeBranch) × (rest : List TreeBranch) × CanEnter c rows start s l p ps rest

-- the branch that could be entered is the first one
abbrev pub HasEntered : Case → List (Row Node) → State → State → Later → ℕ → Type 0
HasEntered c rows old new l p =
    (start : List Branch) (ps : TreeBranch) (rest : List TreeBranch)
    → CanEnter c rows start old l p ps rest → FollowsBranches c rows start new (ps ∷ rest)

-- the sides of an Or of the tree were put in its branch's place
abbrev pub HasSplitOr : Case → List (Row Node) → ℕ → State → State → Type 0
HasSplitOr c rows p old new =
    (start : List Branch) (t : Tree Node) (ps : TreeBranch) (rest : List TreeBranch) (a b : Tree Node)
    → rows ≡ rows_of t → IsGoodState c rows start old → IsCovered rows old.known ps → IsMatchedState c rows old rest
    → subtree_at t p ≡ Some (either a b)
    → FollowsBranches c rows start new (left_branch ps false p a ∷ right_branch One ps false p a b ∷ rest)

-- a leaf closed the first branch
pub record HasClosedBy (old new : State) : Type 0 where
  pub facts : new.facts.items ≡ old.facts.items
  pub known : new.known ≡ old.known
  pub later : new.later.items ≡ old.later.items
  pub closes : (c : Case) (rows : List (Row Node)) → AreKnown c rows (branch_of old) old.known
      → (l : LiftedLeaf) × LiftedCloses c (branch_of old) l × (new.steps ≡ old.steps ++ close l ∷ [])
