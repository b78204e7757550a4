-- The rows of a tree spell it, and turned they spell the turned tree.
use Rattle.std.proofs.{Common.{◌≡◌, ℕ, Bool, List, [], ◌∷◌, ◌++◌, Some, refl, sym, ap, ◌∙◌, append_assoc}, lemmas.List.{append-nil}}
use Rattle.std.specs.{Prelude.{slice_get}, Option.{option_map}}
use Rattle.pc_ground.specs.{declared.row.{Row.{Row}, RowKind.TheVariants.{And, Or}}, Tree.{Tree, both, either, turned}}
use Rattle.pc_ground.{specs.Rows.{rows_of, turned_row, turned_rows}, proofs.Turned.{rows_turned, row_turned}}
use Rattle.solver.specs.Spelled.{before, trees, first_tree, spelled, IsSpelled}

trees_rows : {N : Type 0} (t : Tree N) (rest : List (Row N)) → trees (rows_of t ++ rest) ≡ t ∷ trees rest
trees_rows (both a b) rest =
    ap (before And) (ap trees (append_assoc (rows_of a) (rows_of b) rest) ∙ trees_rows a (rows_of b ++ rest) ∙ ap (λ ts. a ∷ ts) (trees_rows b rest))
trees_rows (either a b) rest =
    ap (before Or) (ap trees (append_assoc (rows_of a) (rows_of b) rest) ∙ trees_rows a (rows_of b ++ rest) ∙ ap (λ ts. a ∷ ts) (trees_rows b rest))
trees_rows t rest = refl

pub spelled_rows : {N : Type 0} (t : Tree N) → spelled (rows_of t) ≡ t
unfolding spelled
spelled_rows t = ap first_tree (ap trees (sym (append-nil (rows_of t))) ∙ trees_rows t [])

pub spelled_is : {N : Type 0} (rows : List (Row N)) (t : Tree N) → rows ≡ rows_of t → spelled rows ≡ t
spelled_is rows t e = ap spelled e ∙ spelled_rows t

pub is_spelled : {N : Type 0} (rows : List (Row N)) (t : Tree N) → rows ≡ rows_of t → IsSpelled rows
is_spelled rows t e = e ∙ ap rows_of (sym (spelled_is rows t e))

-- the rows of the tree, or of its negation
pub turned_flat : {N : Type 0} (n : Bool) (rows : List (Row N)) → IsSpelled rows → turned_rows n rows ≡ rows_of (turned n (spelled rows))
turned_flat n rows flat = ap (turned_rows n) flat ∙ sym (rows_turned n (spelled rows))

pub turned_at : {N : Type 0} (n : Bool) (rows : List (Row N)) (p : ℕ) (r q : Row N) → slice_get rows p ≡ Some r → q ≡ turned_row n r
    → slice_get (turned_rows n rows) p ≡ Some q
turned_at n rows p r q at e = row_turned n rows p ∙ ap (option_map (turned_row n)) at ∙ ap Some (sym e)
