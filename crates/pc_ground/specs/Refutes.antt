-- What refutes a tree: steps in prefix order, of which a split puts the two sides of an asserted Or in a branch's
-- place, and a leaf closes the first open branch by literals that can't stand together. A position under the sign `~`
-- is one of the negated tree.
use Rattle.std.specs.Prelude.{ℕ, ◌≡◌, ◌+◌, ◌-◌, zero, suc, nat_lt, Bool, false, not, map, List, [], ◌∷◌, ◌++◌, Option, Some, None, Contains, if◌then◌else◌}
use Rattle.std.specs.List.{flat_map}
use Rattle.pc_common.specs.{Chain.{Leads}, Steps.{Leaf, cycle, path, absent, false_step, Step, split, close}}
use Rattle.pc_ground.specs.declared.{literal.Literal.{Literal, TheVariants.{NoNode, NoEdge}}, version.Version.{Version, TheVariants.{One, Two}}}
use Rattle.pc_ground.specs.{Tree.{Tree, always, never, leaf, both, either, negation, turned, size_of}, Rows.{root_kind, literals_of_kind}}
use Rattle.pc_ground.specs.Literals.{Joins, IsPresent}

-- the subtree at a position in preorder, the root's being 0
abbrev pub subtree_at : {N : Type 0} → Tree N → ℕ → Option (Tree N)
subtree_at t zero = Some t
subtree_at always (suc p) = None
subtree_at never (suc p) = None
subtree_at (leaf l) (suc p) = None
subtree_at (both a b) (suc p) = if nat_lt p (size_of a) then subtree_at a p else subtree_at b (p - size_of a)
subtree_at (either a b) (suc p) = if nat_lt p (size_of a) then subtree_at a p else subtree_at b (p - size_of a)

-- the positions that a tree asserts, its root standing at p: the root, and with an And both of its children
abbrev pub asserted : {N : Type 0} → Tree N → ℕ → List ℕ
asserted always p = p ∷ []
asserted never p = p ∷ []
asserted (leaf l) p = p ∷ []
asserted (both a b) p = p ∷ (asserted a (p + 1) ++ asserted b (p + 1 + size_of a))
asserted (either a b) p = p ∷ []

-- a position of the tree, or, under the sign `~`, of its negation
pub record Signed : Type 0 where
  pub negated : Bool
  pub position : ℕ

abbrev pub signed : Bool → ℕ → Signed
signed n p = record { negated = n; position = p }

-- the positions that are asserted on a branch, in the order of their assertion
abbrev pub Branch : Type 0
Branch = List Signed

abbrev pub all_signed : Bool → List ℕ → Branch
all_signed n ps = map (signed n) ps

-- what stands at a signed position
abbrev pub part_at : {N : Type 0} → Tree N → Signed → Option (Tree N)
part_at t q = subtree_at (turned q.negated t) q.position

-- the literal, where the tree is one
abbrev pub literal_of : {N : Type 0} → Option (Tree N) → List (Literal N)
literal_of None = []
literal_of (Some s) = literals_of_kind (root_kind s)

-- the literals that are asserted on a branch
abbrev pub literals_of : {N : Type 0} → Tree N → Branch → List (Literal N)
literals_of t ps = flat_map (λ q. literal_of (part_at t q)) ps

-- the leaf tells of literals among these that can't stand together: a cycle of asserted edges, a path of them between
-- the ends of a denied one, or a denied node that is asserted
pub data IsContradiction {N : Type 0} (ls : List (Literal N)) : Leaf N → Type 0 where
  a_cycle : (a : N) (via : List N) → Leads (Joins ls) a via a → IsContradiction ls (cycle (a ∷ via))
  a_path : (a : N) (via : List N) (b : N) → Leads (Joins ls) a via b → Contains ls (NoEdge a b)
      → IsContradiction ls (path (a ∷ (via ++ b ∷ [])))
  an_absence : (a : N) → Contains ls (NoNode a) → IsPresent ls a → IsContradiction ls (absent a)

-- the leaf closes a branch of the tree with these literals
pub data Closes {N : Type 0} (t : Tree N) (ls : List (Literal N)) : Leaf N → Type 0 where
  a_contradiction : {l : Leaf N} → IsContradiction ls l → Closes t ls l
  a_falsity : t ≡ never → Closes t ls false_step

-- the sides a and b of an asserted Or at p: of the tree, or of its negation, in which the tree's Ands are Ors
abbrev pub IsSplit : {N : Type 0} → Tree N → Branch → Bool → ℕ → Tree N → Tree N → Type 0
IsSplit t ps n p a b = Contains ps (signed n p) × (subtree_at (turned n t) p ≡ Some (either a b))

-- the branch with what one side more asserts, whose root stands at p
abbrev pub with_side : {N : Type 0} → Branch → Bool → Tree N → ℕ → Branch
with_side ps n side p = ps ++ all_signed n (asserted side p)

abbrev pub left_branch : {N : Type 0} → Branch → Bool → ℕ → Tree N → Branch
left_branch ps n p a = with_side ps n a (p + 1)

-- the right side; in version 2 it comes after the negation of the left one, which was refuted before
abbrev pub right_branch : {N : Type 0} → Version → Branch → Bool → ℕ → Tree N → Tree N → Branch
right_branch One ps n p a b = with_side ps n b (p + 1 + size_of a)
right_branch Two ps n p a b = with_side (with_side ps (not n) (negation a) (p + 1)) n b (p + 1 + size_of a)

-- the steps lead from these open branches to those, always at the first one
abbrev pub Runs : {N : Type 0} → Version → Tree N → List (Step N) → List Branch → List Branch → Type 0
Runs v t [] opens rest = opens ≡ rest
Runs v t (s ∷ ss) [] rest = ⊥
Runs {N} v t (split n p ∷ ss) (ps ∷ opens) rest =
    (a : Tree N) × (b : Tree N) × IsSplit t ps n p a b
    × Runs v t ss (left_branch ps n p a ∷ right_branch v ps n p a b ∷ opens) rest
Runs v t (close l ∷ ss) (ps ∷ opens) rest = Closes t (literals_of t ps) l × Runs v t ss opens rest

-- the steps of a refutation so far, with the branches that are still open
abbrev pub IsPartial : {N : Type 0} → Version → Tree N → List (Step N) → List Branch → Type 0
IsPartial v t steps opens = Runs v t steps (all_signed false (asserted t 0) ∷ []) opens

abbrev pub IsRefutation : {N : Type 0} → Version → Tree N → List (Step N) → Type 0
IsRefutation v t steps = IsPartial v t steps []
