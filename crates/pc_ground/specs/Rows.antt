-- A tree as rows in preorder: each position with what stands there and how many positions are below it, itself among
-- them.
use Rattle.std.specs.Prelude.{ℕ, ◌≡◌, Bool, true, false, List, [], ◌∷◌, ◌++◌, map, drop}
use Rattle.pc_ground.specs.declared.{literal.Literal.{Literal}, row.{RowKind.{RowKind, TheVariants.{True, False, Lit, And, Or}}, Row.{Row}}}
use Rattle.pc_ground.specs.Tree.{Tree, always, never, leaf, both, either, contrary, size_of}

abbrev row : {N : Type 0} → RowKind N → ℕ → Row N
row kind skip = record { kind = kind; skip = skip }

-- the root first, then the left child's rows, then the right child's
abbrev pub rows_of : {N : Type 0} → Tree N → List (Row N)
rows_of always = row True 1 ∷ []
rows_of never = row False 1 ∷ []
rows_of (leaf l) = row (Lit l) 1 ∷ []
rows_of (both a b) = row And (size_of (both a b)) ∷ (rows_of a ++ rows_of b)
rows_of (either a b) = row Or (size_of (either a b)) ∷ (rows_of a ++ rows_of b)

-- what stands at the root
abbrev pub root_kind : {N : Type 0} → Tree N → RowKind N
root_kind always = True
root_kind never = False
root_kind (leaf l) = Lit l
root_kind (both a b) = And
root_kind (either a b) = Or

abbrev pub literals_of_kind : {N : Type 0} → RowKind N → List (Literal N)
literals_of_kind True = []
literals_of_kind False = []
literals_of_kind (Lit l) = l ∷ []
literals_of_kind And = []
literals_of_kind Or = []

-- what stands there in the tree, or in its negation
abbrev pub turned_kind : {N : Type 0} → Bool → RowKind N → RowKind N
turned_kind false kind = kind
turned_kind true True = False
turned_kind true False = True
turned_kind true (Lit l) = Lit (contrary l)
turned_kind true And = Or
turned_kind true Or = And

abbrev pub turned_row : {N : Type 0} → Bool → Row N → Row N
turned_row negated r = row (turned_kind negated r.kind) r.skip

abbrev pub turned_rows : {N : Type 0} → Bool → List (Row N) → List (Row N)
turned_rows negated rows = map (turned_row negated) rows

-- the rows from p on begin with those of s
abbrev pub IsPart : {N : Type 0} → List (Row N) → ℕ → Tree N → Type 0
IsPart {N} rows p s = (rest : List (Row N)) × (drop p rows ≡ rows_of s ++ rest)

-- the rows are those of a tree
abbrev pub IsFlat : {N : Type 0} → List (Row N) → Type 0
IsFlat {N} rows = (t : Tree N) × (rows ≡ rows_of t)
