-- The tree that rows spell.
use Rattle.std.specs.Prelude.{◌≡◌, List, [], ◌∷◌}
use Rattle.pc_ground.specs.declared.row.{RowKind.{RowKind, TheVariants.{True, False, Lit, And, Or}}, Row.{Row}}
use Rattle.pc_ground.specs.{Tree.{Tree, always, never, leaf, both, either}, Rows.{rows_of}}

-- a row before the trees that the rows after it spell
abbrev pub before : {N : Type 0} → RowKind N → List (Tree N) → List (Tree N)
before True ts = always ∷ ts
before False ts = never ∷ ts
before (Lit l) ts = leaf l ∷ ts
before And [] = []
before And (a ∷ []) = a ∷ []
before And (a ∷ b ∷ ts) = both a b ∷ ts
before Or [] = []
before Or (a ∷ []) = a ∷ []
before Or (a ∷ b ∷ ts) = either a b ∷ ts

abbrev pub trees : {N : Type 0} → List (Row N) → List (Tree N)
trees [] = []
trees (r ∷ rs) = before r.kind (trees rs)

abbrev pub first_tree : {N : Type 0} → List (Tree N) → Tree N
first_tree [] = always
first_tree (t ∷ ts) = t

-- the tree of these rows, where they are those of a tree
unfoldable pub spelled : {N : Type 0} → List (Row N) → Tree N
spelled rows = first_tree (trees rows)

abbrev pub IsSpelled : {N : Type 0} → List (Row N) → Type 0
IsSpelled rows = rows ≡ rows_of (spelled rows)
