-- What stays the same where the nodes of a tree are renamed: its rows' form, its positions, and where its literals stand.
use Rattle.std.proofs.Common.{◌≡◌, ℕ, zero, suc, ◌+◌, ◌-◌, Bool, true, false, List, [], ◌∷◌, ◌++◌, Option, Some, map, refl, sym, ap, ◌∙◌, arith, append_assoc}
use Rattle.std.{proofs.lemmas.List.{append-nil, map-append}, specs.{Prelude.{nat_lt, if◌then◌else◌}, Option.{option_map}}}
use Rattle.pc_ground.specs.declared.{literal.Literal.{Literal, TheVariants.{Node}}, row.{Row.{Row}, RowKind.{RowKind}}}
use Rattle.pc_ground.specs.declared.row.RowKind.TheVariants.{True, False, Lit, And, Or}
use Rattle.pc_ground.specs.{Tree.{Tree, always, never, leaf, both, either, contrary, negation, turned, size_of}, Rows.{rows_of}}
use Rattle.pc_ground.specs.{Keys.{renamed, renamed_kind, renamed_row}, Refutes.{Signed, Branch, subtree_at, part_at, asserted, literal_of, literals_of}}
use Rattle.solver.specs.Renamed.{renamed_tree}

pub size_renamed : {M N : Type 0} (f : M → N) (t : Tree M) → size_of (renamed_tree f t) ≡ size_of t
size_renamed f (both a b) = omega (arith, size_renamed f a, size_renamed f b)
size_renamed f (either a b) = omega (arith, size_renamed f a, size_renamed f b)
size_renamed f t = refl

pub asserted_renamed : {M N : Type 0} (f : M → N) (t : Tree M) (p : ℕ) → asserted (renamed_tree f t) p ≡ asserted t p
asserted_renamed f (both a b) p =
    rw (size_renamed f a, asserted_renamed f a (p + 1), asserted_renamed f b (p + 1 + size_of a)) refl
asserted_renamed f t p = refl

map_if : {X Y : Type 0} (g : X → Y) (c : Bool) (x y : Option X) → option_map g (if c then x else y) ≡ (if c then option_map g x else option_map g y)
map_if g true x y = refl
map_if g false x y = refl

pub subtree_renamed : {M N : Type 0} (f : M → N) (t : Tree M) (p : ℕ) → subtree_at (renamed_tree f t) p ≡ option_map (renamed_tree f) (subtree_at t p)
subtree_renamed f t zero = refl
subtree_renamed f (both a b) (suc p) =
    rw (size_renamed f a, subtree_renamed f a p, subtree_renamed f b (p - size_of a))
    (sym (map_if (renamed_tree f) (nat_lt p (size_of a)) (subtree_at a p) (subtree_at b (p - size_of a))))
subtree_renamed f (either a b) (suc p) =
    rw (size_renamed f a, subtree_renamed f a p, subtree_renamed f b (p - size_of a))
    (sym (map_if (renamed_tree f) (nat_lt p (size_of a)) (subtree_at a p) (subtree_at b (p - size_of a))))
subtree_renamed f t (suc p) = refl

contrary_renamed : {M N : Type 0} (f : M → N) (l : Literal M) → contrary (renamed f l) ≡ renamed f (contrary l)
contrary_renamed f (Node a) = refl
contrary_renamed f l = refl

pub negation_renamed : {M N : Type 0} (f : M → N) (t : Tree M) → negation (renamed_tree f t) ≡ renamed_tree f (negation t)
negation_renamed f (leaf l) = ap leaf (contrary_renamed f l)
negation_renamed f (both a b) =
    ap (λ x. either x (negation (renamed_tree f b))) (negation_renamed f a) ∙ ap (λ y. either (renamed_tree f (negation a)) y) (negation_renamed f b)
negation_renamed f (either a b) =
    ap (λ x. both x (negation (renamed_tree f b))) (negation_renamed f a) ∙ ap (λ y. both (renamed_tree f (negation a)) y) (negation_renamed f b)
negation_renamed f t = refl

pub turned_renamed : {M N : Type 0} (f : M → N) (n : Bool) (t : Tree M) → turned n (renamed_tree f t) ≡ renamed_tree f (turned n t)
turned_renamed f false t = refl
turned_renamed f true t = negation_renamed f t

pub part_renamed : {M N : Type 0} (f : M → N) (t : Tree M) (q : Signed) → part_at (renamed_tree f t) q ≡ option_map (renamed_tree f) (part_at t q)
part_renamed f t q =
    ap (λ u. subtree_at u q.position) (turned_renamed f q.negated t) ∙ subtree_renamed f (turned q.negated t) q.position

literal_by : {M N : Type 0} (f : M → N) (o : Option (Tree M)) → literal_of (option_map (renamed_tree f) o) ≡ map (renamed f) (literal_of o)
literal_by f (Some (leaf l)) = refl
literal_by f o = refl

pub literals_renamed : {M N : Type 0} (f : M → N) (t : Tree M) (ps : Branch) → literals_of (renamed_tree f t) ps ≡ map (renamed f) (literals_of t ps)
literals_renamed f t [] = refl
literals_renamed f t (q ∷ ps) =
    let here : literal_of (part_at (renamed_tree f t) q) ≡ map (renamed f) (literal_of (part_at t q)) =
    ap literal_of (part_renamed f t q) ∙ literal_by f (part_at t q) in
    let rest = literals_renamed f t ps in
    rw (here, rest) (sym (map-append (renamed f) (literal_of (part_at t q)) (literals_of t ps)))

-- the kind and the skip of a row of numbers, by those of its named row: first where the kind is no literal
back_kind : {M N : Type 0} (f : M → N) (k kind : RowKind M) → ((l : Literal M) → kind ≡ Lit l → ⊥) → renamed_kind f k ≡ renamed_kind f kind → k ≡ kind
back_kind f k (Lit l) none e = absurd (none l refl)
back_kind f True True none e = refl
back_kind f False False none e = refl
back_kind f And And none e = refl
back_kind f Or Or none e = refl
back_kind f k kind none e = cc

back_literal : {M N : Type 0} (f : M → N) (k : RowKind M) (l : Literal N) → renamed_kind f k ≡ Lit l → (m : Literal M) × (k ≡ Lit m) × (renamed f m ≡ l)
back_literal f (Lit m) l e = (m, refl, (let same : renamed f m ≡ l = cc in same))
back_literal f k l e = cc

same_row : {N : Type 0} (r : Row N) (k : RowKind N) (n : ℕ) → r.kind ≡ k → r.skip ≡ n → r ≡ record { kind = k; skip = n }
same_row {N} r k n e f =
    let P : RowKind N → ℕ → Row N = λ x m. record { kind = x; skip = m } in
    ap (λ x. P x r.skip) e ∙ ap (P k) f

abbrev head_kind : {N : Type 0} → List (Row N) → RowKind N
head_kind [] = True
head_kind (r ∷ rs) = r.kind

abbrev head_skip : {N : Type 0} → List (Row N) → ℕ
head_skip [] = 0
head_skip (r ∷ rs) = r.skip

abbrev tail_of : {X : Type 0} → List X → List X
tail_of [] = []
tail_of (x ∷ xs) = xs

-- the rows of two parts with the row above them
row_over : {M N : Type 0} (f : M → N) (r : Row M) (k : RowKind M) (a b : Tree N) (c d : Tree M) (rs ms ns : List (Row M)) → r.kind ≡ k
    → r.skip ≡ 1 + (size_of a + size_of b) → renamed_tree f c ≡ a → renamed_tree f d ≡ b → rs ≡ rows_of c ++ ms → ms ≡ rows_of d ++ ns
    → r ∷ rs ≡ record { kind = k; skip = 1 + (size_of c + size_of d) } ∷ ((rows_of c ++ rows_of d) ++ ns)
row_over f r k a b c d rs ms ns kind skip left right first rest =
    let size : r.skip ≡ 1 + (size_of c + size_of d) =
    omega (arith, skip, ap size_of left, ap size_of right, size_renamed f c, size_renamed f d) in
    ap (λ x. x ∷ rs) (same_row r k (1 + (size_of c + size_of d)) kind size)
    ∙ ap (λ xs. record { kind = k; skip = 1 + (size_of c + size_of d) } ∷ xs)
    (first ∙ ap (λ xs. rows_of c ++ xs) rest ∙ sym (append_assoc (rows_of c) (rows_of d) ns))

-- rows of numbers that are named as those of a tree are those of a tree of numbers
tree_back : {M N : Type 0} (f : M → N) (t : Tree N) (ns : List (Row M)) (rest : List (Row N)) → map (renamed_row f) ns ≡ rows_of t ++ rest
    → (s : Tree M) × (ms : List (Row M)) × (ns ≡ rows_of s ++ ms) × (renamed_tree f s ≡ t) × (map (renamed_row f) ms ≡ rest)
tree_back f always (r ∷ rs) rest e =
    (always, rs, ap (λ x. x ∷ rs) (same_row r True 1 (back_kind f r.kind True (λ l x. cc) (ap head_kind e)) (ap head_skip e)), refl, ap tail_of e)
tree_back f never (r ∷ rs) rest e =
    (never, rs, ap (λ x. x ∷ rs) (same_row r False 1 (back_kind f r.kind False (λ l x. cc) (ap head_kind e)) (ap head_skip e)), refl, ap tail_of e)
tree_back f (leaf l) (r ∷ rs) rest e =
    let back = back_literal f r.kind l (ap head_kind e) in
    (leaf back.0, rs, ap (λ x. x ∷ rs) (same_row r (Lit back.0) 1 back.1 (ap head_skip e)), ap leaf back.2, ap tail_of e)
tree_back f (both a b) (r ∷ rs) rest e =
    let left = tree_back f a rs (rows_of b ++ rest) (ap tail_of e ∙ append_assoc (rows_of a) (rows_of b) rest) in
    let right = tree_back f b left.1 rest left.4 in (
      both left.0 right.0,
      right.1,
      row_over f r And a b left.0 right.0 rs left.1 right.1 (back_kind f r.kind And (λ l x. cc) (ap head_kind e)) (ap head_skip e) left.3 right.3 left.2 right.2,
      ap (λ x. both x (renamed_tree f right.0)) left.3 ∙ ap (both a) right.3,
      right.4,
    )
tree_back f (either a b) (r ∷ rs) rest e =
    let left = tree_back f a rs (rows_of b ++ rest) (ap tail_of e ∙ append_assoc (rows_of a) (rows_of b) rest) in
    let right = tree_back f b left.1 rest left.4 in (
      either left.0 right.0,
      right.1,
      row_over f r Or a b left.0 right.0 rs left.1 right.1 (back_kind f r.kind Or (λ l x. cc) (ap head_kind e)) (ap head_skip e) left.3 right.3 left.2 right.2,
      ap (λ x. either x (renamed_tree f right.0)) left.3 ∙ ap (either a) right.3,
      right.4,
    )
tree_back f always [] rest e = cc
tree_back f t [] rest e = cc

pub tree_of_names : {M N : Type 0} (f : M → N) (t : Tree N) (ns : List (Row M)) → map (renamed_row f) ns ≡ rows_of t
    → (s : Tree M) × (ns ≡ rows_of s) × (renamed_tree f s ≡ t)
tree_of_names f t ns e =
    let back = tree_back f t ns [] (e ∙ sym (append-nil (rows_of t))) in
    let none : back.1 ≡ [] = nothing (renamed_row f) back.1 back.4 in
    (back.0, back.2 ∙ ap (λ xs. rows_of back.0 ++ xs) none ∙ append-nil (rows_of back.0), back.3)
  where
    nothing : {X Y : Type 0} (g : X → Y) (xs : List X) → map g xs ≡ [] → xs ≡ []
    nothing g [] e = refl
    nothing g (x ∷ xs) e = cc
