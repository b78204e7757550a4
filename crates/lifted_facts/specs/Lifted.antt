-- Lifted refutations: steps in prefix order that leave no branch of facts open.
use Rattle.std.specs.Prelude.{ℕ, ◌≡◌, ◌⊎◌, Bool, true, false, List, [], ◌∷◌, ◌++◌, Some, slice_get}
use Rattle.pc_common.specs.{Case.{Case}, World.{Node}}
use Rattle.pc_syntax.specs.Closed.{PlainClosed}
use Rattle.lifted_facts.specs.{declared.way.Way.{Way}, PlainFacts.{PlainFact, one_node, one_edge, Branch, root}, Parts.{part_of, sides, is_false}}

-- what closes a branch; its facts are named by their numbers
pub data LiftedLeaf : Type 0 where
  -- the fact holds in no world
  falsity : ℕ → LiftedLeaf
  -- edges, one at least, each of which ends where the next begins, and the last one at the first
  cycle : ℕ → List ℕ → LiftedLeaf
  -- edges, one at least, that are joined so, and the denial of one from their start to their end
  path : ℕ → List ℕ → ℕ → LiftedLeaf
  -- the denial of a node, and that node or an edge with it as an end
  absent : ℕ → ℕ → LiftedLeaf

pub data LiftedStep : Type 0 where
  -- adds a part of the fact
  derive : Way → ℕ → LiftedStep
  -- puts two branches in the place of one: each has one side of the fact more
  split : ℕ → LiftedStep
  close : LiftedLeaf → LiftedStep

abbrev pub HasFact : Branch → ℕ → PlainFact → Type 0
HasFact b k f = slice_get b k ≡ Some f

-- the fact is that the one node happens before the other, or, under the sign false, that it doesn't
abbrev pub IsEdge : Branch → Bool → ℕ → Node → Node → Type 0
IsEdge b plus k x y = HasFact b k (one_edge plus (Some x) (Some y))

-- the edges lead from x to y
abbrev pub Follows : Branch → Node → List ℕ → Node → Type 0
Follows b x [] y = x ≡ y
Follows b x (k ∷ ks) y = (z : Node) × IsEdge b true k x z × Follows b z ks y

-- the fact asserts the node, by itself or as an end of an edge
abbrev pub Asserts : PlainFact → Node → Type 0
Asserts (one_node true (Some x)) a = x ≡ a
Asserts (one_edge true (Some x) (Some y)) a = (x ≡ a) ⊎ (y ≡ a)
Asserts _ a = ⊥

-- joined edges that end where they begin
abbrev pub IsCycle : Branch → ℕ → List ℕ → Type 0
IsCycle b k ks = (x : Node) × Follows b x (k ∷ ks) x

-- joined edges, and the denial of one from their start to their end
abbrev pub IsPath : Branch → ℕ → List ℕ → ℕ → Type 0
IsPath b k ks denial = (x : Node) × (y : Node) × Follows b x (k ∷ ks) y × IsEdge b false denial x y

-- the denial of a node that another fact asserts
abbrev pub IsAbsent : Branch → ℕ → ℕ → Type 0
IsAbsent b denial k =
    (a : Node) × (f : PlainFact) × HasFact b denial (one_node false (Some a)) × HasFact b k f × Asserts f a

-- the fact holds in no world
abbrev pub IsFalsity : Case → Branch → ℕ → Type 0
IsFalsity c b k = (f : PlainFact) × HasFact b k f × (is_false c f ≡ true)

abbrev pub Closes : Case → Branch → LiftedLeaf → Type 0
Closes c b (falsity k) = IsFalsity c b k
Closes c b (cycle k ks) = IsCycle b k ks
Closes c b (path k ks denial) = IsPath b k ks denial
Closes c b (absent denial k) = IsAbsent b denial k

-- the fact has this part, and these sides
abbrev pub HasPart : Case → Branch → Way → ℕ → PlainFact → Type 0
HasPart c b way k g = (f : PlainFact) × HasFact b k f × (part_of c way f ≡ Some g)

abbrev pub HasSides : Case → Branch → ℕ → PlainFact → PlainFact → Type 0
HasSides c b k g h = (f : PlainFact) × HasFact b k f × (sides c f ≡ Some (g, h))

-- the branches that a step puts in the place of this one, where its condition holds
abbrev pub StepsTo : Case → LiftedStep → Branch → List Branch → Type 0
StepsTo c (derive way k) b next = (g : PlainFact) × HasPart c b way k g × (next ≡ (b ++ g ∷ []) ∷ [])
StepsTo c (split k) b next =
    (g : PlainFact) × (h : PlainFact) × HasSides c b k g h × (next ≡ (b ++ g ∷ []) ∷ (b ++ h ∷ []) ∷ [])
StepsTo c (close l) b next = Closes c b l × (next ≡ [])

-- so of the first of several open branches
abbrev pub Advances : Case → LiftedStep → List Branch → List Branch → Type 0
Advances c s [] rest = ⊥
Advances c s (b ∷ opens) rest = (next : List Branch) × StepsTo c s b next × (rest ≡ next ++ opens)

-- the steps lead from these open branches to those, always at the first one
abbrev pub Runs : Case → List LiftedStep → List Branch → List Branch → Type 0
Runs c [] opens rest = opens ≡ rest
Runs c (s ∷ ss) opens rest = (next : List Branch) × Advances c s opens next × Runs c ss next rest

-- so many steps of a refutation leave these branches open
abbrev pub IsPartial : Case → List PlainClosed → List LiftedStep → List Branch → Type 0
IsPartial c axioms steps opens = Runs c steps (root axioms ∷ []) opens

-- the steps close every branch
abbrev pub IsLiftedRefutation : Case → List PlainClosed → List LiftedStep → Type 0
IsLiftedRefutation c axioms steps = IsPartial c axioms steps []

-- what came of a step: where it is good, these branches are open after it; else its condition does not hold
abbrev pub HasAdvanced : Case → LiftedStep → List Branch → List Branch → Bool → Type 0
HasAdvanced c s old new true = Advances c s old new
HasAdvanced c s old new false = (rest : List Branch) → Advances c s old rest → ⊥
