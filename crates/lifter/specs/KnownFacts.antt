-- What is known on a lifted branch of the branch of the ground tree: under which number each asserted Or and literal is a fact.
use Rattle.std.specs.Prelude.{ℕ, ◌≡◌, ◌⊎◌, true, false, List, [], ◌∷◌, ◌++◌, Some, map}
use Rattle.pc_common.specs.{Case.{Case}, World.{Node}, Elements.{In}}
use Rattle.pc_ground.specs.{Refutes.{signed}, declared.row.Row.{Row}, Tree.{Tree, always, never, leaf, both, either}, Rows.{IsPart}}
use Rattle.refutation.specs.{BranchFacts.{PlainBranchFact, at_position, edge, no_edge, no_node, present, plain_branch_fact, facts_of_literal}, declared.branch_fact.BranchFact.{BranchFact}}
use Rattle.lifted_facts.specs.{PlainFacts.{PlainFact, one_node, Branch}, Parts.{sides}, Lifted.{HasFact, IsEdge, Asserts}}
use Rattle.lifter.specs.{Trees.{fact_tree}, declared.kind.FactKind.TheVariants.{Open}}
use Rattle.lifter.specs.Kinds.{kind_of}

-- the Or at this position is asserted; no position has a sign, since the rules of version 1 look at no negated tree
abbrev pub or_at : ℕ → PlainBranchFact
or_at p = at_position (signed false p)

-- with the number of a fact
abbrev pub Entry : Type 0
Entry = PlainBranchFact × ℕ

abbrev pub entry : PlainBranchFact → ℕ → Entry
entry key k = (key, k)

abbrev pub entries_of : List (BranchFact × ℕ) → List Entry
entries_of es = map (λ e. entry (plain_branch_fact e.0) e.1) es

abbrev pub HasKey : List Entry → PlainBranchFact → Type 0
HasKey es key = (k : ℕ) × In (entry key k) es

-- the fact's two sides are those of the Or at this position, and neither is a constant
pub record IsOr (c : Case) (rows : List (Row Node)) (f : PlainFact) (p : ℕ) : Type 0 where
  pub first : PlainFact
  pub second : PlainFact
  pub are : sides c f ≡ Some (first, second)
  pub first_open : kind_of (fact_tree c first) ≡ Open
  pub second_open : kind_of (fact_tree c second) ≡ Open
  pub stands : IsPart rows p (either (fact_tree c first) (fact_tree c second))

-- what a key says of the fact of its number
abbrev pub IsKnown : Case → List (Row Node) → Branch → PlainBranchFact → ℕ → Type 0
IsKnown c rows b (at_position q) k = (q.negated ≡ false) × (f : PlainFact) × HasFact b k f × IsOr c rows f q.position
IsKnown c rows b (edge x y) k = IsEdge b true k x y
IsKnown c rows b (no_edge x y) k = IsEdge b false k x y
IsKnown c rows b (no_node a) k = HasFact b k (one_node false (Some a))
IsKnown c rows b (present a) k = (f : PlainFact) × HasFact b k f × Asserts f a

abbrev pub AreKnown : Case → List (Row Node) → Branch → List Entry → Type 0
AreKnown c rows b es = (key : PlainBranchFact) (k : ℕ) → In (entry key k) es → IsKnown c rows b key k

-- one key more, if it was not there
pub record HasMarked (old : List Entry) (key : PlainBranchFact) (k : ℕ) (new : List Entry) : Type 0 where
  pub more : List Entry
  pub first : new ≡ old ++ more
  pub each : (other : PlainBranchFact) (j : ℕ) → In (entry other j) new → In (entry other j) old ⊎ ((key ≡ other) × (k ≡ j))
  pub has : HasKey new key

-- all of these are known
abbrev pub HaveKeys : List Entry → List PlainBranchFact → Type 0
HaveKeys es [] = Unit {0}
HaveKeys es (key ∷ keys) = HasKey es key × HaveKeys es keys

abbrev pub TellsRoot : List Entry → ℕ → Tree Node → Type 0
TellsRoot es p always = Unit {0}
TellsRoot es p never = Unit {0}
TellsRoot es p (leaf l) = HaveKeys es (facts_of_literal l)
TellsRoot es p (both a b) = Unit {0}
TellsRoot es p (either a b) = HasKey es (or_at p)

-- what stands at a position is known, where it is an Or or a literal
abbrev pub TellsAt : List (Row Node) → List Entry → ℕ → Type 0
TellsAt rows es p = (s : Tree Node) → IsPart rows p s → TellsRoot es p s

abbrev pub TellsAll : List (Row Node) → List Entry → List ℕ → Type 0
TellsAll rows es ps = (p : ℕ) → In p ps → TellsAt rows es p

-- each of these keys is one of those
abbrev pub HaveMore : List Entry → List Entry → Type 0
HaveMore old new = (key : PlainBranchFact) → HasKey old key → HasKey new key

-- the edges along these nodes are known
abbrev pub AreEdges : List Entry → Node → List Node → Type 0
AreEdges es x [] = Unit {0}
AreEdges es x (y ∷ ys) = HasKey es (edge x y) × AreEdges es y ys

-- under these numbers
abbrev pub AreNumbers : List Entry → Node → List Node → List ℕ → Type 0
AreNumbers es x [] [] = Unit {0}
AreNumbers es x (y ∷ ys) (k ∷ ks) = In (entry (edge x y) k) es × AreNumbers es y ys ks
AreNumbers es x _ _ = ⊥

-- the edges of a cycle are known, and those of a path with the denial of one from its start to its end
abbrev pub IsCycleKnown : List Entry → List Node → Type 0
IsCycleKnown es [] = ⊥
IsCycleKnown es (x ∷ via) = AreEdges es x (via ++ x ∷ [])

pub record IsPathKnown (es : List Entry) (nodes : List Node) : Type 0 where
  pub first : Node
  pub via : List Node
  pub last : Node
  pub all : nodes ≡ first ∷ (via ++ last ∷ [])
  pub edges : AreEdges es first (via ++ last ∷ [])
  pub denied : HasKey es (no_edge first last)
