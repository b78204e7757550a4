-- The branches that are open: the facts of the first, and of each waiting one what it keeps of those and one fact more.
use Rattle.std.specs.Prelude.{ℕ, ◌≤◌, Bool, true, false, List, [], ◌∷◌, ◌++◌, All, length, map, take, reverse}
use Rattle.pc_common.specs.Case.{Case}
use Rattle.lifted_facts.specs.{declared.{fact.Fact.{Fact}, waiting.Waiting.{Waiting as WaitingBranch}}, PlainFacts.{Branch, plain_fact, IsProper}}

-- a waiting branch has the first facts of the one before it, and one fact more; the next one is first
abbrev pub waiting : Branch → List WaitingBranch → List Branch
waiting b [] = []
waiting b (l ∷ ls) = (take l.count b ++ plain_fact l.fact ∷ []) ∷ waiting (take l.count b) ls

-- the open branches: none where the flag says so
abbrev pub opens_of : Bool → List Fact → List WaitingBranch → List Branch
opens_of true facts ls = map plain_fact facts ∷ waiting (map plain_fact facts) ls
opens_of false facts ls = []

-- no waiting branch keeps more facts than the one before it has
abbrev pub AreWithin : ℕ → List WaitingBranch → Type 0
AreWithin n [] = Unit {0}
AreWithin n (l ∷ ls) = (l.count ≤ n) × AreWithin l.count ls

-- each fact is one of the case, and waiting branches keep facts that are there; the next one stands last
pub record AreKept (c : Case) (facts : List Fact) (later : List WaitingBranch) : Type 0 where
  pub proper : All (IsProper c) facts
  pub later_proper : All (λ l. IsProper c l.fact) later
  pub within : AreWithin (length facts) (reverse later)
