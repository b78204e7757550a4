-- Lists of flags, one for each position.
use Rattle.std.specs.Prelude.{ℕ, Bool, true, false, List, ◌≡◌, ◌+◌, ◌≤◌, ◌↔◌, Some, slice_index_or}
use Rattle.pc_ground.specs.{declared.{literal.Literal.{Literal}, row.Row.{Row}}, Tree.{Tree, both, either, size_of}, Rows.{rows_of}, Refutes.{subtree_at}}
use Rattle.solver.specs.Met.{IsMet}

-- false past the end
abbrev pub flag : List Bool → ℕ → Bool
flag flags p = slice_index_or flags p false

-- from a position on, the flags tell which subtrees are true in the world that the literals generate
abbrev pub AreTruths : {N : Type 0} → Tree N → List (Literal N) → ℕ → List Bool → Type 0
AreTruths {N} t ls from flags = (p : ℕ) (s : Tree N) → from ≤ p → subtree_at t p ≡ Some s → (flag flags p ≡ true) ↔ IsMet ls s

-- an And or an Or, with its children's places
pub data HasChildren {N : Type 0} (t : Tree N) (p : ℕ) : ℕ → Type 0 where
  of_both : (a b : Tree N) → subtree_at t p ≡ Some (both a b) → HasChildren t p (p + 1 + size_of a)
  of_either : (a b : Tree N) → subtree_at t p ≡ Some (either a b) → HasChildren t p (p + 1 + size_of a)

-- an And or an Or stands there
abbrev pub SomeChildren : {N : Type 0} → Tree N → ℕ → Type 0
SomeChildren t p = (right : ℕ) × HasChildren t p right

-- the flags of the children
abbrev pub AreChildFlags : {N : Type 0} → Tree N → List Bool → ℕ → Bool × Bool → Type 0
AreChildFlags t flags p pair = (right : ℕ) → HasChildren t p right → (pair.0 ≡ flag flags (p + 1)) × (pair.1 ≡ flag flags right)

-- these rows are those of the subtree there
abbrev pub IsTreePart : {N : Type 0} → Tree N → ℕ → List (Row N) → Type 0
IsTreePart {N} t p part = (s : Tree N) × (subtree_at t p ≡ Some s) × (part ≡ rows_of s)
