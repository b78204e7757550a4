-- What folding makes of two parts, and which rows.
use Rattle.std.proofs.Common.{◌≡◌, ◌≢◌, ℕ, ◌+◌, Bool, true, false, List, [], ◌∷◌, ◌++◌, length, take, refl, ap, sym, ◌∙◌, append_assoc}
use Rattle.std.{proofs.lemmas.{List.{reverse-append, length-reverse, take_at, append-nil}, Grind.{reverse_onto}}, specs.Prelude.{reverse}}
use Rattle.pc_ground.{specs.{Tree.{Tree, always, never, leaf, both, either, size_of}, Rows.{rows_of}, declared.row.Row.{Row}}, proofs.FlatRows.{length_rows}}
use Rattle.normal_form.specs.{declared.{joint.Junction.{Junction, TheVariants.{And, Or}}, part.Part.TheVariants.{Constant, Rows}}, Parts.{part_of, backward}}
use Rattle.normal_form.specs.Spine.{constant_tree, neutral, junction_of, row_kind}

-- a constant part

pub part_of-constant : (N : Type 0) (v : Bool) → Constant v ≡ part_of (constant_tree {N = N} v)
part_of-constant N true = refl
part_of-constant N false = refl

pub backward-constant : (N : Type 0) (v : Bool) → backward (constant_tree {N = N} v) ≡ []
backward-constant N true = refl
backward-constant N false = refl

pub decided_left : {N : Type 0} (c : Junction) (v : Bool) (b : Tree N) → v ≢ neutral c → junction_of c (constant_tree v) b ≡ constant_tree v
decided_left And true b h = absurd (h refl)
decided_left And false b h = refl
decided_left Or true b h = refl
decided_left Or false b h = absurd (h refl)

pub decided_right : {N : Type 0} (c : Junction) (v : Bool) (a : Tree N) → v ≢ neutral c → junction_of c a (constant_tree v) ≡ constant_tree v
decided_right And true a h = absurd (h refl)
decided_right And false always h = refl
decided_right And false never h = refl
decided_right And false (leaf l) h = refl
decided_right And false (both a b) h = refl
decided_right And false (either a b) h = refl
decided_right Or true always h = refl
decided_right Or true never h = refl
decided_right Or true (leaf l) h = refl
decided_right Or true (both a b) h = refl
decided_right Or true (either a b) h = refl
decided_right Or false a h = absurd (h refl)

-- two parts with rows

abbrev root : {N : Type 0} → Junction → Tree N → Tree N → Tree N
root And a b = both a b
root Or a b = either a b

junction_rows : {N : Type 0} (c : Junction) (a b : Tree N) → Rows ≡ part_of a → Rows ≡ part_of b → junction_of c a b ≡ root c a b
junction_rows c always b e f = absurd (cc)
junction_rows c never b e f = absurd (cc)
junction_rows c a always e f = absurd (cc)
junction_rows c a never e f = absurd (cc)
junction_rows And (leaf l) (leaf m) e f = refl
junction_rows And (leaf l) (both x y) e f = refl
junction_rows And (leaf l) (either x y) e f = refl
junction_rows And (both v w) (leaf m) e f = refl
junction_rows And (both v w) (both x y) e f = refl
junction_rows And (both v w) (either x y) e f = refl
junction_rows And (either v w) (leaf m) e f = refl
junction_rows And (either v w) (both x y) e f = refl
junction_rows And (either v w) (either x y) e f = refl
junction_rows Or (leaf l) (leaf m) e f = refl
junction_rows Or (leaf l) (both x y) e f = refl
junction_rows Or (leaf l) (either x y) e f = refl
junction_rows Or (both v w) (leaf m) e f = refl
junction_rows Or (both v w) (both x y) e f = refl
junction_rows Or (both v w) (either x y) e f = refl
junction_rows Or (either v w) (leaf m) e f = refl
junction_rows Or (either v w) (both x y) e f = refl
junction_rows Or (either v w) (either x y) e f = refl

pub backward-rows : {N : Type 0} (t : Tree N) → Rows ≡ part_of t → backward t ≡ reverse (rows_of t)
backward-rows always e = absurd (cc)
backward-rows never e = absurd (cc)
backward-rows (leaf l) e = refl
backward-rows (both a b) e = refl
backward-rows (either a b) e = refl

pub length-backward : {N : Type 0} (t : Tree N) → Rows ≡ part_of t → length (backward t) ≡ size_of t
length-backward t e = ap length (backward-rows t e) ∙ length-reverse (rows_of t) ∙ length_rows t

abbrev pub root_row : {N : Type 0} → Junction → Tree N → Tree N → Row N
root_row c a b = record { kind = row_kind c; skip = 1 + (size_of a + size_of b) }

root_last : {N : Type 0} (r : Row N) (xs ys : List (Row N)) → reverse (r ∷ (xs ++ ys)) ≡ reverse ys ++ reverse xs ++ r ∷ []
root_last r xs ys = reverse_onto (xs ++ ys) r [] ∙ ap (λ zs. zs ++ r ∷ []) (reverse-append xs ys)

backward-root : {N : Type 0} (c : Junction) (a b : Tree N)
    → backward (root c a b) ≡ reverse (rows_of b) ++ reverse (rows_of a) ++ root_row c a b ∷ []
backward-root And a b = root_last (root_row And a b) (rows_of a) (rows_of b)
backward-root Or a b = root_last (root_row Or a b) (rows_of a) (rows_of b)

part_of-root : {N : Type 0} (c : Junction) (a b : Tree N) → Rows ≡ part_of (root c a b)
part_of-root And a b = refl
part_of-root Or a b = refl

pub part_of-junction : {N : Type 0} (c : Junction) (a b : Tree N) → Rows ≡ part_of a → Rows ≡ part_of b → Rows ≡ part_of (junction_of c a b)
part_of-junction c a b e f = part_of-root c a b ∙ ap part_of (sym (junction_rows c a b e f))

pub backward-junction : {N : Type 0} (c : Junction) (a b : Tree N) → Rows ≡ part_of a → Rows ≡ part_of b
    → backward b ++ backward a ++ root_row c a b ∷ [] ≡ backward (junction_of c a b)
backward-junction c a b e f =
    ap (λ xs. xs ++ backward a ++ root_row c a b ∷ []) (backward-rows b f)
    ∙ ap (λ xs. reverse (rows_of b) ++ xs ++ root_row c a b ∷ []) (backward-rows a e)
    ∙ sym (backward-root c a b) ∙ ap backward (sym (junction_rows c a b e f))

-- rows after others

-- both parts' rows, and the root's
pub push_root : {N : Type 0} (c : Junction) (first old : List (Row N)) (a b : Tree N) (r : Row N)
    → Rows ≡ part_of a → Rows ≡ part_of b → old ≡ first ++ backward b ++ backward a → r ≡ root_row c a b
    → old ++ r ∷ [] ≡ first ++ backward (junction_of c a b)
push_root c first old a b r e f written is =
    ap (λ xs. xs ++ r ∷ []) written ∙ append_assoc (first ++ backward b) (backward a) (r ∷ [])
    ∙ append_assoc first (backward b) (backward a ++ r ∷ []) ∙ ap (λ xs. first ++ xs) (sym (append_assoc (backward b) (backward a) (r ∷ [])))
    ∙ ap (λ x. first ++ (backward b ++ backward a ++ x ∷ [])) is ∙ ap (λ xs. first ++ xs) (backward-junction c a b e f)

-- none of the rows of a part beside a constant that decides
pub cut_decided : {N : Type 0} (v : Bool) (first old : List (Row N)) (start : ℕ) (t u : Tree N) → u ≡ constant_tree v → length first ≡ start
    → old ≡ first ++ backward t → (Constant v ≡ part_of u) × (take start old ≡ first ++ backward u)
cut_decided {N} v first old start t u is from written = (
  part_of-constant N v ∙ ap part_of (sym is),
  ap (take start) written ∙ take_at first (backward t) start from
      ∙ sym (append-nil first) ∙ ap (λ xs. first ++ xs) (sym (ap backward is ∙ backward-constant N v)),
)
