-- The state of lifting: the facts of the first branch, what is known of them, the branches that wait and the steps so far.
use Rattle.std.specs.Prelude.{ℕ, ◌≡◌, ◌≤◌, false, All, List, [], ◌∷◌, ◌++◌, length, map, take, reverse}
use Rattle.pc_common.specs.{Case.{Case}, World.{Node}, Elements.{In}}
use Rattle.pc_ground.specs.{declared.row.Row.{Row}, Rows.{IsPart}, Refutes.{asserted, Signed, all_signed, Branch as TreeBranch}}
use Rattle.lifted_facts.specs.{PlainFacts.{PlainFact, Branch, plain_fact, IsProper}, Lifted.{LiftedStep, Runs}}
use Rattle.lifter.specs.{Trees.{fact_tree}, declared.{kind.FactKind.TheVariants.{False, Open}, state.{Task.{Task, TheVariants.{Close, Side}}, Later.{Later}}}}
use Rattle.lifter.specs.{declared.state.State.{State}, Kinds.{kind_of}, KnownFacts.{Entry, AreKnown, TellsAt, HaveMore}}

abbrev pub branch_of : State → Branch
branch_of s = map plain_fact s.facts.items

-- a waiting branch has the first facts of the one before it, and one fact more; the next one is first
abbrev pub waiting : Branch → List Later → List Branch
waiting b [] = []
waiting b (l ∷ ls) = (take l.count b ++ plain_fact l.fact ∷ []) ∷ waiting (take l.count b) ls

-- a branch that waits only to be closed has a fact that is False
abbrev pub IsDue : Case → Later → Task → Type 0
IsDue c l Close = kind_of (fact_tree c (plain_fact l.fact)) ≡ False
IsDue c l (Side p) = Unit {0}

-- each fact is one of the case
pub record AreKept (c : Case) (s : State) : Type 0 where
  pub proper : All (IsProper c) s.facts.items
  pub later_proper : All (λ l. IsProper c l.fact) s.later.items
  pub due : All (λ l. IsDue c l l.task) s.later.items

-- waiting branches keep facts that are there, and what is known of them
abbrev pub AreLater : Case → List (Row Node) → Branch → List Entry → List Later → Type 0
AreLater c rows b es [] = Unit {0}
AreLater c rows b es (l ∷ ls) =
    (l.count ≤ length b) × (l.known ≤ length es) × AreKnown c rows (take l.count b) (take l.known es)
    × AreLater c rows (take l.count b) (take l.known es) ls

-- the steps lead to these branches, and what is known holds
pub record IsGood (c : Case) (rows : List (Row Node)) (start : List Branch) (b : Branch) (es : List Entry) (ls : List Later)
    (steps : List LiftedStep) : Type 0 where
  pub run : Runs c steps start (b ∷ waiting b ls)
  pub known : AreKnown c rows b es
  pub later : AreLater c rows b es ls

abbrev pub IsGoodState : Case → List (Row Node) → List Branch → State → Type 0
IsGoodState c rows start s = IsGood c rows start (branch_of s) s.known (reverse s.later.items) s.steps

-- what is asserted on a branch of the ground tree is known
abbrev pub IsCovered : List (Row Node) → List Entry → TreeBranch → Type 0
IsCovered rows es ps = (q : Signed) → In q ps → (q.negated ≡ false) × TellsAt rows es q.position

-- a waiting branch that has a side of the ground tree to take: what it asserts is known, but for the side
pub record IsSide (c : Case) (rows : List (Row Node)) (es : List Entry) (l : Later) (p : ℕ) (ps : TreeBranch) : Type 0 where
  pub before : TreeBranch
  pub covered : IsCovered rows es before
  pub stands : IsPart rows p (fact_tree c (plain_fact l.fact))
  pub is_open : kind_of (fact_tree c (plain_fact l.fact)) ≡ Open
  pub all : ps ≡ before ++ all_signed false (asserted (fact_tree c (plain_fact l.fact)) p)

-- the waiting branches that have a side to take are the open branches of the ground tree
pub data AreMatched (c : Case) (rows : List (Row Node)) : List Entry → List Later → List TreeBranch → Type 0 where
  no_more : {es : List Entry} → AreMatched c rows es [] []
  due : {es : List Entry} {ls : List Later} {opens : List TreeBranch} (l : Later) → l.task ≡ Close
      → AreMatched c rows (take l.known es) ls opens → AreMatched c rows es (l ∷ ls) opens
  side : {es : List Entry} {ls : List Later} {opens : List TreeBranch} (l : Later) (p : ℕ) (ps : TreeBranch) → l.task ≡ Side p
      → IsSide c rows (take l.known es) l p ps → AreMatched c rows (take l.known es) ls opens → AreMatched c rows es (l ∷ ls) (ps ∷ opens)

abbrev pub IsMatchedState : Case → List (Row Node) → State → List TreeBranch → Type 0
IsMatchedState c rows s opens = AreMatched c rows s.known (reverse s.later.items) opens

-- the branch goes on: nothing that was there is gone, and no other open branch of the ground tree came
pub record Moves (c : Case) (rows : List (Row Node)) (old new : State) : Type 0 where
  pub more : Branch
  pub facts : branch_of new ≡ branch_of old ++ more
  pub keys : HaveMore old.known new.known
  pub kept : AreKept c old → AreKept c new
  pub good : (start : List Branch) → IsGoodState c rows start old → IsGoodState c rows start new
  pub matched : (start : List Branch) (opens : List TreeBranch) → IsGoodState c rows start old → IsMatchedState c rows old opens
      → IsMatchedState c rows new opens

-- one fact more, with this number
pub record HasGained (c : Case) (rows : List (Row Node)) (old new : State) (k : ℕ) (g : PlainFact) : Type 0 where
  pub number : k ≡ length (branch_of old)
  pub last : branch_of new ≡ branch_of old ++ g ∷ []
  pub moves : Moves c rows old new

-- whatever the ground tree is
abbrev pub GainsFact : Case → State → State → PlainFact → ℕ → Type 0
GainsFact c old new g k = (rows : List (Row Node)) → HasGained c rows old new k g
