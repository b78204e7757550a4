-- Positions of a tree on a branch, each under the sign `~` or not.
use Rattle.std.specs.Prelude.{ℕ, ◌≡◌, ◌+◌, ◌<◌, ◌⊎◌, Bool, false, not, List, [], ◌++◌, Option, Some, None, Contains}
use Rattle.pc_ground.specs.{Tree.{Tree, either, turned, size_of}, declared.version.Version.{Version, TheVariants.{One, Two}}}
use Rattle.pc_ground.specs.Refutes.{Branch, Signed, signed, all_signed, subtree_at, part_at, asserted, literals_of}
use Rattle.solver.specs.{Met.{IsMetUnder}, declared.{tree.place.Place.{Place}, tree.side.Side.{Side}}}

abbrev pub place_signed : Place → Signed
place_signed a = signed a.negated a.position

abbrev pub asserted_in : {N : Type 0} → Option (Tree N) → ℕ → List ℕ
asserted_in None p = []
asserted_in (Some s) p = asserted s p

-- what the part at p asserts, under this sign
abbrev pub asserted_at : {N : Type 0} → Tree N → Bool → ℕ → Branch
asserted_at t n p = all_signed n (asserted_in (subtree_at (turned n t) p) p)

-- what the left side asserts under the other sign, where it was refuted before
abbrev pub denied_positions : {N : Type 0} → Tree N → Bool → Option ℕ → Branch
denied_positions t n None = []
denied_positions t n (Some left) = asserted_at t (not n) left

-- what a side of a split asserts: first that the left one is false, where it says so, then itself
abbrev pub side_positions : {N : Type 0} → Tree N → Side → Branch
side_positions t s = denied_positions t s.negated s.denied ++ asserted_at t s.negated s.root

abbrev pub IsDeniedIn : {N : Type 0} → Tree N → Option ℕ → Type 0
IsDeniedIn t None = Unit {0}
IsDeniedIn t (Some left) = left < size_of t

-- the roots of a side are positions of the tree
abbrev pub IsSideIn : {N : Type 0} → Tree N → Side → Type 0
IsSideIn t s = (s.root < size_of t) × IsDeniedIn t s.denied

-- the whole tree, as a side
abbrev pub root_side : Side
root_side = record { negated = false; root = 0; denied = None }

abbrev pub left_side : Signed → Side
left_side q = record { negated = q.negated; root = q.position + 1; denied = None }

-- in version 2 a right side says that the left one is false
abbrev pub denied_left : Version → ℕ → Option ℕ
denied_left One left = None
denied_left Two left = Some left

-- the right side, beside a left one of this size
abbrev pub right_side : Version → Signed → ℕ → Side
right_side v q size = record { negated = q.negated; root = q.position + 1 + size; denied = denied_left v (q.position + 1) }

-- an Or stands there: of the tree, or of its negation
abbrev pub IsOr : {N : Type 0} → Tree N → Signed → Type 0
IsOr {N} t q = (a : Tree N) × (b : Tree N) × (part_at t q ≡ Some (either a b))

-- the sides of the Or at q
abbrev pub AreSides : {N : Type 0} → Version → Tree N → Signed → Side × Side → Type 0
AreSides {N} v t q pair = (a b : Tree N) → part_at t q ≡ Some (either a b) → (pair.0 ≡ left_side q) × (pair.1 ≡ right_side v q (size_of a))

-- an asserted Or that has no side on the branch and is not true in the world that the branch's literals generate
pub record IsCandidate {N : Type 0} (t : Tree N) (ps : Branch) (q : Signed) : Type 0 where
  pub left : Tree N
  pub right : Tree N
  pub is_or : part_at t q ≡ Some (either left right)
  pub on_branch : Contains ps q
  pub no_left : Contains ps (signed q.negated (q.position + 1)) → ⊥
  pub no_right : Contains ps (signed q.negated (q.position + 1 + size_of left)) → ⊥
  pub is_false : IsMetUnder q.negated (literals_of t ps) (turned q.negated (either left right)) → ⊥

-- an asserted Or there is true in the world that the branch's literals generate, or has a side on the branch
abbrev pub IsChosen : {N : Type 0} → Tree N → Branch → Signed → Type 0
IsChosen {N} t ps q = (a b : Tree N) → Contains ps q → part_at t q ≡ Some (either a b)
    → IsMetUnder q.negated (literals_of t ps) (turned q.negated (either a b))
    ⊎ Contains ps (signed q.negated (q.position + 1)) ⊎ Contains ps (signed q.negated (q.position + 1 + size_of a))

abbrev pub AreChosen : {N : Type 0} → Tree N → Branch → Type 0
AreChosen t ps = (q : Signed) → IsChosen t ps q

-- the place is among these, and its sides at these positions are not
abbrev pub IsUntaken : List Place → Place → ℕ → ℕ → Type 0
IsUntaken xs q left right = Contains xs q
    × (Contains xs (record { negated = q.negated; position = left }) → ⊥) × (Contains xs (record { negated = q.negated; position = right }) → ⊥)

-- if the place is among these, one of its sides is
abbrev pub IsTaken : List Place → Place → ℕ → ℕ → Type 0
IsTaken xs q left right = Contains xs q
    → Contains xs (record { negated = q.negated; position = left }) ⊎ Contains xs (record { negated = q.negated; position = right })

-- an asserted Or with no side on the branch
abbrev pub IsPending : {N : Type 0} → Tree N → List Place → Place → Type 0
IsPending {N} t xs q = (a : Tree N) × (b : Tree N) × (part_at t (place_signed q) ≡ Some (either a b))
    × IsUntaken xs q (q.position + 1) (q.position + 1 + size_of a)

-- none is there
abbrev pub IsPassed : {N : Type 0} → Tree N → List Place → Place → Type 0
IsPassed {N} t xs q = (a b : Tree N) → part_at t (place_signed q) ≡ Some (either a b)
    → IsTaken xs q (q.position + 1) (q.position + 1 + size_of a)
