-- What a clash tells of a list of literals that can't stand together.
use Rattle.std.specs.Prelude.{ℕ, Bool, List, [], ◌∷◌, ◌++◌, Option, Contains, MatchBool, MatchOption}
use Rattle.pc_common.specs.{Chain.{Reach}, Steps.{Leaf, cycle, path, absent}}
use Rattle.pc_ground.specs.{declared.literal.Literal.{Literal, TheVariants.{NoEdge}}, Literals.{Joins, IsConsistent}, Refutes.{IsContradiction}}
use Rattle.undo_trail.specs.BitTable.{BitTable}
use Rattle.order_graph.specs.{Rows.{Represents}, declared.clash.Clash.{Clash, TheVariants.{Cycle, Path, Absent}}}

-- an edge from p to q would join no denied pair
abbrev pub JoinsNone : List (Literal ℕ) → ℕ → ℕ → Type 0
JoinsNone ls p q = (x y : ℕ) → Contains ls (NoEdge x y) → Reach (Joins ls) x p → Reach (Joins ls) q y → ⊥

-- the leaf of a refutation that tells the same
abbrev pub leaf_of : Clash → Leaf ℕ
leaf_of (Cycle nodes) = cycle nodes
leaf_of (Path nodes) = path nodes
leaf_of (Absent a) = absent a

-- what the clash tells is a contradiction of these literals
abbrev pub IsClash : List (Literal ℕ) → Clash → Type 0
IsClash ls k = IsContradiction ls (leaf_of k)

-- the literals and this one are consistent
abbrev pub IsConsistentWith : List (Literal ℕ) → Literal ℕ → Type 0
IsConsistentWith ls l = IsConsistent (ls ++ l ∷ [])

-- they are not
abbrev pub ClashesWith : List (Literal ℕ) → Literal ℕ → Type 0
ClashesWith ls l = IsConsistentWith ls l → ⊥

-- it is a clash of the literals and this one, or there is none
abbrev pub IsClashWith : List (Literal ℕ) → Literal ℕ → Option Clash → Type 0
IsClashWith ls l found = MatchOption found (IsConsistentWith ls l) (IsClash (ls ++ l ∷ []))

-- the answer tells whether the literal clashes with those that the table represents, whichever they are
abbrev pub TellsClash : ℕ → BitTable → Literal ℕ → Bool → Type 0
TellsClash n v l answer = (ls : List (Literal ℕ)) → Represents n v.words ls v.now
    → MatchBool answer (ClashesWith ls l) (IsConsistentWith ls l)
