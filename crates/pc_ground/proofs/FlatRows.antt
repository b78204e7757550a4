-- Rows and the trees that they spell: subtrees, sizes, children, literals, and that no two trees have the same rows.
use Rattle.std.proofs.Common.{◌≡◌, ℕ, zero, suc, ◌+◌, ◌-◌, ◌<◌, ◌≤◌, inl, inr, false, List, [], ◌∷◌, ◌++◌, Some, None, length, drop, refl, sym, ◌∙◌, ap, subst, arith, append_assoc, length-append, length-drop}
use Rattle.std.proofs.lemmas.{Bool.{ltb-true, ltb-false, false_from_ne_true}, List.{append-nil}, Option.{slice_get_within, slice_get_past}}
use Rattle.std.specs.{Prelude.{slice_get, nat_lt, Option}, Option.{unwrap_or}}
use Rattle.pc_common.proofs.Bools.{true_or_false}
use Rattle.pc_ground.specs.declared.{row.{RowKind.{TheVariants.{True, False, Lit, And, Or}, RowKind}, Row.{Row}}, node_key.NodeKey.{NodeKey}}
use Rattle.pc_ground.specs.{declared.literal.Literal.{Literal}, Tree.{Tree, always, never, leaf, both, either, size_of}}
use Rattle.pc_ground.specs.{Rows.{root_kind, rows_of, literals_of_kind, IsPart}, Refutes.{subtree_at, literal_of}, Keys.{key_node, renamed_kind}}

not_lt : (p n : ℕ) → n ≤ p → nat_lt p n ≡ false
not_lt p n past = false_from_ne_true (nat_lt p n) (λ h. omega (arith, past, ltb-true p n h))

abbrev pub root_of : {N : Type 0} → Tree N → Row N
root_of t = record { kind = root_kind t; skip = size_of t }

pub size_pos : {N : Type 0} (t : Tree N) → 0 < size_of t
size_pos always = omega arith
size_pos t = omega arith

pub length_rows : {N : Type 0} (t : Tree N) → length (rows_of t) ≡ size_of t
length_rows (both a b) = omega (arith, length-append (rows_of a) (rows_of b), length_rows a, length_rows b)
length_rows (either a b) = omega (arith, length-append (rows_of a) (rows_of b), length_rows a, length_rows b)
length_rows t = refl

-- the root's row, and the rest
pub first_row : {N : Type 0} (t : Tree N) → (rest : List (Row N)) × (rows_of t ≡ root_of t ∷ rest)
first_row always = ([], refl)
first_row never = ([], refl)
first_row (leaf l) = ([], refl)
first_row (both a b) = (rows_of a ++ rows_of b, refl)
first_row (either a b) = (rows_of a ++ rows_of b, refl)

pub part_whole : {N : Type 0} (t : Tree N) → IsPart (rows_of t) 0 t
part_whole t = ([], sym (append-nil (rows_of t)))

drop_first : {X : Type 0} (p : ℕ) (rows : List X) (x : X) (rest : List X) → drop p rows ≡ x ∷ rest → drop (p + 1) rows ≡ rest
drop_first zero [] x rest e = cc
drop_first zero (y ∷ ys) x rest e = (let same : ys ≡ rest = cc in same)
drop_first (suc p) [] x rest e = cc
drop_first (suc p) (y ∷ ys) x rest e = (let next : suc p + 1 ≡ suc (p + 1) = omega arith in rw next (drop_first p ys x rest e))

drop_more : {X : Type 0} (p : ℕ) (rows xs ys : List X) → drop p rows ≡ xs ++ ys → drop (p + length xs) rows ≡ ys
drop_more p rows [] ys e = (let same : p + 0 ≡ p = omega arith in rw same e)
drop_more p rows (x ∷ xs) ys e =
    let next : p + (1 + length xs) ≡ (p + 1) + length xs = omega arith in
    let one : p + length (x ∷ xs) ≡ (p + 1) + length xs = omega arith in
    rw one (drop_more (p + 1) rows xs ys (drop_first p rows x (xs ++ ys) e))

part_below : {N : Type 0} (rows : List (Row N)) (p : ℕ) (r : Row N) (a b : Tree N) (rest : List (Row N)) → drop p rows ≡ (r ∷ (rows_of a ++ rows_of b)) ++ rest
    → IsPart rows (p + 1) a × IsPart rows (p + 1 + size_of a) b
part_below rows p r a b rest e =
    let left : drop (p + 1) rows ≡ rows_of a ++ (rows_of b ++ rest) = drop_first p rows r ((rows_of a ++ rows_of b) ++ rest) e
    ∙ append_assoc (rows_of a) (rows_of b) rest in
    let right : drop (p + 1 + length (rows_of a)) rows ≡ rows_of b ++ rest = drop_more (p + 1) rows (rows_of a) (rows_of b ++ rest) left in
    ((rows_of b ++ rest, left), (rest, ap (λ n. drop (p + 1 + n) rows) (sym (length_rows a)) ∙ right))

-- the children of a part: the left one stands at p + 1, the right one after it
pub parts_both : {N : Type 0} (rows : List (Row N)) (p : ℕ) (a b : Tree N) → IsPart rows p (both a b)
    → IsPart rows (p + 1) a × IsPart rows (p + 1 + size_of a) b
parts_both rows p a b (rest, e) = part_below rows p _ a b rest e

pub parts_either : {N : Type 0} (rows : List (Row N)) (p : ℕ) (a b : Tree N) → IsPart rows p (either a b)
    → IsPart rows (p + 1) a × IsPart rows (p + 1 + size_of a) b
parts_either rows p a b (rest, e) = part_below rows p _ a b rest e

get_first : {X : Type 0} (p : ℕ) (rows : List X) (x : X) (rest : List X) → drop p rows ≡ x ∷ rest → slice_get rows p ≡ Some x
get_first zero [] x rest e = cc
get_first (suc p) (y ∷ ys) x rest e = get_first p ys x rest e
get_first p rows x rest e = cc

pub part_row : {N : Type 0} (rows : List (Row N)) (p : ℕ) (s : Tree N) → IsPart rows p s → slice_get rows p ≡ Some (root_of s)
part_row rows p s (rest, e) =
    let f = first_row s in
    get_first p rows (root_of s) (f.0 ++ rest) (e ∙ ap (λ xs. xs ++ rest) f.1)

pub part_within : {N : Type 0} (rows : List (Row N)) (p : ℕ) (s : Tree N) → IsPart rows p s → p + size_of s ≤ length rows
part_within rows p s (rest, e) =
    let len : length (drop p rows) ≡ size_of s + length rest = ap length e ∙ length-append (rows_of s) rest ∙ ap (λ n. n + length rest) (length_rows s) in
    let pos = size_pos s in
    omega (arith, len, pos, length-drop p rows)

-- no two trees are spelled by the beginning of the same rows
pub one_tree : {N : Type 0} (s t : Tree N) (xs ys : List (Row N)) → rows_of s ++ xs ≡ rows_of t ++ ys → (s ≡ t) × (xs ≡ ys)
one_tree s t xs ys e = go s t xs ys e
  where
    kind_at : {N : Type 0} (s t : Tree N) (xs ys : List (Row N)) → rows_of s ++ xs ≡ rows_of t ++ ys → root_kind s ≡ root_kind t
    kind_at {N} s t xs ys e =
        let f = first_row s in
        let g = first_row t in
        let same : root_of s ∷ (f.0 ++ xs) ≡ root_of t ∷ (g.0 ++ ys) = ap (λ zs. zs ++ xs) (sym f.1) ∙ e ∙ ap (λ zs. zs ++ ys) g.1 in
        let roots : root_of s ≡ root_of t = cc in
        ap (λ (r : Row N). r.kind) roots

    -- the rows below two roots
    below_roots : {N : Type 0} (r q : Row N) (a b c d : Tree N) (xs ys : List (Row N))
        → (r ∷ (rows_of a ++ rows_of b)) ++ xs ≡ (q ∷ (rows_of c ++ rows_of d)) ++ ys
        → rows_of a ++ (rows_of b ++ xs) ≡ rows_of c ++ (rows_of d ++ ys)
    below_roots r q a b c d xs ys e =
        let tails : (rows_of a ++ rows_of b) ++ xs ≡ (rows_of c ++ rows_of d) ++ ys = cc in
        sym (append_assoc (rows_of a) (rows_of b) xs) ∙ tails ∙ append_assoc (rows_of c) (rows_of d) ys

    go : {N : Type 0} (s t : Tree N) (xs ys : List (Row N)) → rows_of s ++ xs ≡ rows_of t ++ ys → (s ≡ t) × (xs ≡ ys)
    go always always xs ys e = (refl, cc)
    go never never xs ys e = (refl, cc)
    go (leaf l) (leaf m) xs ys e = (let k = kind_at (leaf l) (leaf m) xs ys e in let same : l ≡ m = cc in (ap leaf same, cc))
    go (both a b) (both c d) xs ys e =
        let left = go a c (rows_of b ++ xs) (rows_of d ++ ys) (below_roots _ _ a b c d xs ys e) in
        let right = go b d xs ys left.1 in
        (ap (λ x. both x b) left.0 ∙ ap (λ x. both c x) right.0, right.1)
    go (either a b) (either c d) xs ys e =
        let left = go a c (rows_of b ++ xs) (rows_of d ++ ys) (below_roots _ _ a b c d xs ys e) in
        let right = go b d xs ys left.1 in
        (ap (λ x. either x b) left.0 ∙ ap (λ x. either c x) right.0, right.1)
    go always never xs ys e = (let k = kind_at always never xs ys e in cc)
    go always (leaf m) xs ys e = (let k = kind_at always (leaf m) xs ys e in cc)
    go always (both c d) xs ys e = (let k = kind_at always (both c d) xs ys e in cc)
    go always (either c d) xs ys e = (let k = kind_at always (either c d) xs ys e in cc)
    go never always xs ys e = (let k = kind_at never always xs ys e in cc)
    go never (leaf m) xs ys e = (let k = kind_at never (leaf m) xs ys e in cc)
    go never (both c d) xs ys e = (let k = kind_at never (both c d) xs ys e in cc)
    go never (either c d) xs ys e = (let k = kind_at never (either c d) xs ys e in cc)
    go (leaf l) always xs ys e = (let k = kind_at (leaf l) always xs ys e in cc)
    go (leaf l) never xs ys e = (let k = kind_at (leaf l) never xs ys e in cc)
    go (leaf l) (both c d) xs ys e = (let k = kind_at (leaf l) (both c d) xs ys e in cc)
    go (leaf l) (either c d) xs ys e = (let k = kind_at (leaf l) (either c d) xs ys e in cc)
    go (both a b) always xs ys e = (let k = kind_at (both a b) always xs ys e in cc)
    go (both a b) never xs ys e = (let k = kind_at (both a b) never xs ys e in cc)
    go (both a b) (leaf m) xs ys e = (let k = kind_at (both a b) (leaf m) xs ys e in cc)
    go (both a b) (either c d) xs ys e = (let k = kind_at (both a b) (either c d) xs ys e in cc)
    go (either a b) always xs ys e = (let k = kind_at (either a b) always xs ys e in cc)
    go (either a b) never xs ys e = (let k = kind_at (either a b) never xs ys e in cc)
    go (either a b) (leaf m) xs ys e = (let k = kind_at (either a b) (leaf m) xs ys e in cc)
    go (either a b) (both c d) xs ys e = (let k = kind_at (either a b) (both c d) xs ys e in cc)

pub rows_injective : {N : Type 0} (s t : Tree N) → rows_of s ≡ rows_of t → s ≡ t
rows_injective s t e = (one_tree s t [] [] (ap (λ xs. xs ++ []) e)).0

pub one_part : {N : Type 0} (rows : List (Row N)) (p : ℕ) (s t : Tree N) → IsPart rows p s → IsPart rows p t → s ≡ t
one_part rows p s t (xs, e) (ys, f) = (one_tree s t xs ys (sym e ∙ f)).0

drop_over : {X : Type 0} (xs ys : List X) (p : ℕ) → length xs ≤ p → drop p (xs ++ ys) ≡ drop (p - length xs) ys
drop_over [] ys p past = (let same : p - 0 ≡ p = omega arith in rw same refl)
drop_over (x ∷ xs) ys zero past = absurd (omega (arith, past))
drop_over (x ∷ xs) ys (suc p) past = (let same : suc p - length (x ∷ xs) ≡ p - length xs = omega arith in rw same (drop_over xs ys p (omega (arith, past))))

drop_in : {X : Type 0} (xs ys zs rest : List X) (p : ℕ) → p < length xs → drop p xs ≡ zs ++ rest → drop p (xs ++ ys) ≡ zs ++ (rest ++ ys)
drop_in [] ys zs rest p inside e = absurd (omega (arith, inside))
drop_in (x ∷ xs) ys zs rest zero inside e = ap (λ us. us ++ ys) e ∙ append_assoc zs rest ys
drop_in (x ∷ xs) ys zs rest (suc p) inside e = drop_in xs ys zs rest p (omega (arith, inside)) e

-- a subtree of a left child, and one of a right child
part_in_left : {N : Type 0} (r : Row N) (a b s : Tree N) (p : ℕ) → p < size_of a → IsPart (rows_of a) p s → IsPart (r ∷ (rows_of a ++ rows_of b)) (suc p) s
part_in_left r a b s p inside (rest, e) = (rest ++ rows_of b, drop_in (rows_of a) (rows_of b) (rows_of s) rest p (omega (arith, inside, length_rows a)) e)

part_in_right : {N : Type 0} (r : Row N) (a b s : Tree N) (p : ℕ) → size_of a ≤ p → IsPart (rows_of b) (p - size_of a) s
    → IsPart (r ∷ (rows_of a ++ rows_of b)) (suc p) s
part_in_right r a b s p past (rest, e) =
    (rest, drop_over (rows_of a) (rows_of b) p (omega (arith, past, length_rows a)) ∙ ap (λ n. drop (p - n) (rows_of b)) (length_rows a) ∙ e)

-- the subtree at a position is spelled from there on
pub subtree_part : {N : Type 0} (t : Tree N) (p : ℕ) (s : Tree N) → subtree_at t p ≡ Some s → IsPart (rows_of t) p s
subtree_part t zero s e = (let same : t ≡ s = cc in subst (λ x. IsPart (rows_of t) zero x) same (part_whole t))
subtree_part (both a b) (suc p) s e =
    elim (true_or_false (nat_lt p (size_of a))) [
      | inl h ↦ part_in_left (root_of (both a b)) a b s p (ltb-true p (size_of a) h) (subtree_part a p s (rw h at e))
      | inr h ↦ part_in_right (root_of (both a b)) a b s p (ltb-false p (size_of a) h) (subtree_part b (p - size_of a) s (rw h at e))
    ]
subtree_part (either a b) (suc p) s e =
    elim (true_or_false (nat_lt p (size_of a))) [
      | inl h ↦ part_in_left (root_of (either a b)) a b s p (ltb-true p (size_of a) h) (subtree_part a p s (rw h at e))
      | inr h ↦ part_in_right (root_of (either a b)) a b s p (ltb-false p (size_of a) h) (subtree_part b (p - size_of a) s (rw h at e))
    ]
subtree_part t p s e = cc

-- there is a subtree at each position
pub subtree_within : {N : Type 0} (t : Tree N) (p : ℕ) → p < size_of t → (s : Tree N) × (subtree_at t p ≡ Some s)
subtree_within t zero inside = (t, refl)
subtree_within (both a b) (suc p) inside =
    elim (true_or_false (nat_lt p (size_of a))) [
      | inl h ↦ rw h (subtree_within a p (ltb-true p (size_of a) h))
      | inr h ↦ rw h (subtree_within b (p - size_of a) (let past = ltb-false p (size_of a) h in omega (arith, inside)))
    ]
subtree_within (either a b) (suc p) inside =
    elim (true_or_false (nat_lt p (size_of a))) [
      | inl h ↦ rw h (subtree_within a p (ltb-true p (size_of a) h))
      | inr h ↦ rw h (subtree_within b (p - size_of a) (let past = ltb-false p (size_of a) h in omega (arith, inside)))
    ]
subtree_within t p inside = absurd (omega (arith, inside))

-- what the rows spell from a position on is the subtree there
pub part_subtree : {N : Type 0} (t : Tree N) (p : ℕ) (s : Tree N) → IsPart (rows_of t) p s → subtree_at t p ≡ Some s
part_subtree t p s h =
    let inside = part_within (rows_of t) p s h in
    let there = subtree_within t p (omega (arith, inside, length_rows t, size_pos s)) in
    there.1 ∙ ap Some (one_part (rows_of t) p there.0 s (subtree_part t p there.0 there.1) h)

pub subtree_size : {N : Type 0} (t : Tree N) (p : ℕ) (s : Tree N) → subtree_at t p ≡ Some s → p + size_of s ≤ size_of t
subtree_size t p s e = (let inside = part_within (rows_of t) p s (subtree_part t p s e) in omega (arith, inside, length_rows t))

pub subtree_row : {N : Type 0} (t : Tree N) (p : ℕ) (s : Tree N) → subtree_at t p ≡ Some s → slice_get (rows_of t) p ≡ Some (root_of s)
subtree_row t p s e = part_row (rows_of t) p s (subtree_part t p s e)

-- the children of a subtree
pub children_both : {N : Type 0} (t : Tree N) (p : ℕ) (a b : Tree N) → subtree_at t p ≡ Some (both a b)
    → (subtree_at t (p + 1) ≡ Some a) × (subtree_at t (p + 1 + size_of a) ≡ Some b)
children_both t p a b e =
    let parts = parts_both (rows_of t) p a b (subtree_part t p (both a b) e) in
    (part_subtree t (p + 1) a parts.0, part_subtree t (p + 1 + size_of a) b parts.1)

pub children_either : {N : Type 0} (t : Tree N) (p : ℕ) (a b : Tree N) → subtree_at t p ≡ Some (either a b)
    → (subtree_at t (p + 1) ≡ Some a) × (subtree_at t (p + 1 + size_of a) ≡ Some b)
children_either t p a b e =
    let parts = parts_either (rows_of t) p a b (subtree_part t p (either a b) e) in
    (part_subtree t (p + 1) a parts.0, part_subtree t (p + 1 + size_of a) b parts.1)

-- the subtree of a row: one is there, and its root's row is that row
pub row_subtree : {N : Type 0} (t : Tree N) (p : ℕ) (r : Row N) → slice_get (rows_of t) p ≡ Some r → (s : Tree N) × (subtree_at t p ≡ Some s) × (root_of s ≡ r)
row_subtree t p r e =
    let inside = slice_get_within (rows_of t) p r e in
    let there = subtree_within t p (omega (arith, inside, length_rows t)) in
    (there.0, there.1, some_same (sym (subtree_row t p there.0 there.1) ∙ e))
  where
    some_same : {X : Type 0} {x y : X} → Some x ≡ Some y → x ≡ y
    some_same {X} {x} {y} e = ap (λ o. unwrap_or o x) e

-- an Or's sides by its rows: the left child at p + 1, the right child after its skip
pub or_subtree : {N : Type 0} (t : Tree N) (p : ℕ) (r : Row N) → slice_get (rows_of t) p ≡ Some r → r.kind ≡ Or
    → (a : Tree N) × (b : Tree N) × (subtree_at t p ≡ Some (either a b)) × (slice_get (rows_of t) (p + 1) ≡ Some (root_of a))
or_subtree {N} t p r e k = go (row_subtree t p r e)
  where
    go : (s : Tree N) × (subtree_at t p ≡ Some s) × (root_of s ≡ r)
        → (a : Tree N) × (b : Tree N) × (subtree_at t p ≡ Some (either a b)) × (slice_get (rows_of t) (p + 1) ≡ Some (root_of a))
    go (always, at, is) = (let h : True ≡ Or = ap (λ (q : Row N). q.kind) is ∙ k in cc)
    go (never, at, is) = (let h : False ≡ Or = ap (λ (q : Row N). q.kind) is ∙ k in cc)
    go (leaf l, at, is) = (let h : Lit l ≡ Or = ap (λ (q : Row N). q.kind) is ∙ k in cc)
    go (both a b, at, is) = (let h : And ≡ Or = ap (λ (q : Row N). q.kind) is ∙ k in cc)
    go (either a b, at, is) = (a, b, at, subtree_row t (p + 1) a (children_either t p a b at).0)

-- after its last position a tree has no subtree
pub subtree_past : {N : Type 0} (t : Tree N) (p : ℕ) → size_of t ≤ p → subtree_at t p ≡ None
subtree_past t zero past = absurd (omega (arith, past, size_pos t))
subtree_past (both a b) (suc p) past =
    let out : nat_lt p (size_of a) ≡ false = not_lt p (size_of a) (omega (arith, past)) in
    rw out (subtree_past b (p - size_of a) (omega (arith, past)))
subtree_past (either a b) (suc p) past =
    let out : nat_lt p (size_of a) ≡ false = not_lt p (size_of a) (omega (arith, past)) in
    rw out (subtree_past b (p - size_of a) (omega (arith, past)))
subtree_past t p past = refl

-- the literal of a row, if it is one's
abbrev pub literals_of_row : {N : Type 0} → Option (Row N) → List (Literal N)
literals_of_row None = []
literals_of_row (Some r) = literals_of_kind r.kind

-- the literal at a position, by its row
pub literal_by_row : {N : Type 0} (t : Tree N) (p : ℕ) → literal_of (subtree_at t p) ≡ literals_of_row (slice_get (rows_of t) p)
literal_by_row t p =
    elim (true_or_false (nat_lt p (size_of t))) [
      | inl h ↦ (let there = subtree_within t p (ltb-true p (size_of t) h) in
          ap literal_of there.1 ∙ ap literals_of_row (sym (subtree_row t p there.0 there.1)))
      | inr h ↦ (let past = ltb-false p (size_of t) h in
          ap literal_of (subtree_past t p past) ∙ ap literals_of_row (sym (slice_get_past (rows_of t) p (omega (arith, past, length_rows t)))))
    ]

pub renamed_false : (k : RowKind NodeKey) → renamed_kind key_node k ≡ False → k ≡ False
renamed_false False e = refl
renamed_false k e = cc
