-- A tree and its negation: sizes, subtrees, rows and truth.
use Rattle.std.proofs.{Common.{◌≡◌, ℕ, zero, suc, ◌+◌, ◌-◌, Bool, true, false, not, List, [], ◌∷◌, Option, Some, refl, sym, ◌∙◌, ap}, lemmas.List.{map-append}}
use Rattle.std.specs.Prelude.{slice_get, nat_lt, option_map, if◌then◌else◌, ◌&&◌, ◌||◌}
use Rattle.pc_common.specs.World.{Node, World}
use Rattle.pc_ground.specs.declared.{literal.Literal.{Literal, TheVariants.{Node as a_node}}, row.Row.{Row}}
use Rattle.pc_ground.specs.Tree.{Tree, always, never, leaf, both, either, contrary, negation, turned, size_of, tree_true}
use Rattle.pc_ground.{specs.{Rows.{rows_of, turned_row, turned_rows}, Refutes.{subtree_at}}, proofs.NormalForms.{contrary_true}}

pub contrary_twice : {N : Type 0} (l : Literal N) → contrary (contrary l) ≡ l
contrary_twice (a_node a) = refl
contrary_twice l = refl

pub negation_twice : {N : Type 0} (t : Tree N) → negation (negation t) ≡ t
negation_twice always = refl
negation_twice never = refl
negation_twice (leaf l) = ap leaf (contrary_twice l)
negation_twice (both a b) = ap (λ x. both x (negation (negation b))) (negation_twice a) ∙ ap (λ x. both a x) (negation_twice b)
negation_twice (either a b) = ap (λ x. either x (negation (negation b))) (negation_twice a) ∙ ap (λ x. either a x) (negation_twice b)

pub size_negation : {N : Type 0} (t : Tree N) → size_of (negation t) ≡ size_of t
size_negation (both a b) = ap (λ n. 1 + (n + size_of (negation b))) (size_negation a) ∙ ap (λ n. 1 + (size_of a + n)) (size_negation b)
size_negation (either a b) = ap (λ n. 1 + (n + size_of (negation b))) (size_negation a) ∙ ap (λ n. 1 + (size_of a + n)) (size_negation b)
size_negation t = refl

pub size_turned : {N : Type 0} (n : Bool) (t : Tree N) → size_of (turned n t) ≡ size_of t
size_turned false t = refl
size_turned true t = size_negation t

map_if : {X Y : Type 0} (f : X → Y) (b : Bool) (x y : Option X) → (if b then option_map f x else option_map f y) ≡ option_map f (if b then x else y)
map_if f true x y = refl
map_if f false x y = refl

subtree_below : {N : Type 0} (a b : Tree N) (p : ℕ)
    → ((q : ℕ) → subtree_at (negation a) q ≡ option_map negation (subtree_at a q))
    → ((q : ℕ) → subtree_at (negation b) q ≡ option_map negation (subtree_at b q))
    → (if nat_lt p (size_of (negation a)) then subtree_at (negation a) p else subtree_at (negation b) (p - size_of (negation a)))
    ≡ option_map negation (if nat_lt p (size_of a) then subtree_at a p else subtree_at b (p - size_of a))
subtree_below a b p left right =
    ap (λ n. if nat_lt p n then subtree_at (negation a) p else subtree_at (negation b) (p - n)) (size_negation a)
    ∙ ap (λ x. if nat_lt p (size_of a) then x else subtree_at (negation b) (p - size_of a)) (left p)
    ∙ ap (λ x. if nat_lt p (size_of a) then option_map negation (subtree_at a p) else x) (right (p - size_of a))
    ∙ map_if negation (nat_lt p (size_of a)) (subtree_at a p) (subtree_at b (p - size_of a))

-- the subtrees of the negation are the negations of the subtrees
pub subtree_negation : {N : Type 0} (t : Tree N) (p : ℕ) → subtree_at (negation t) p ≡ option_map negation (subtree_at t p)
subtree_negation t zero = refl
subtree_negation (both a b) (suc p) = subtree_below a b p (subtree_negation a) (subtree_negation b)
subtree_negation (either a b) (suc p) = subtree_below a b p (subtree_negation a) (subtree_negation b)
subtree_negation t p = refl

-- what stands at a position under one sign, negated, stands there under the other
pub subtree_denied : {N : Type 0} (t : Tree N) (n : Bool) (p : ℕ) (a : Tree N) → subtree_at (turned n t) p ≡ Some a
    → subtree_at (turned (not n) t) p ≡ Some (negation a)
subtree_denied t false p a e = subtree_negation t p ∙ ap (option_map negation) e
subtree_denied t true p a e =
    ap (λ u. subtree_at u p) (sym (negation_twice t)) ∙ subtree_negation (negation t) p ∙ ap (option_map negation) e

rows_negation : {N : Type 0} (t : Tree N) → rows_of (negation t) ≡ turned_rows true (rows_of t)
rows_negation always = refl
rows_negation never = refl
rows_negation (leaf l) = refl
rows_negation {N} (both a b) =
    let below = map-append (turned_row true) (rows_of a) (rows_of b) in
    let size = size_negation (both a b) in
    rw (size, rows_negation a, rows_negation b, below) refl
rows_negation {N} (either a b) =
    let below = map-append (turned_row true) (rows_of a) (rows_of b) in
    let size = size_negation (either a b) in
    rw (size, rows_negation a, rows_negation b, below) refl

turned_none : {N : Type 0} (rows : List (Row N)) → rows ≡ turned_rows false rows
turned_none [] = refl
turned_none (r ∷ rs) = ap (λ xs. r ∷ xs) (turned_none rs)

-- the rows of the tree, or of its negation
pub rows_turned : {N : Type 0} (n : Bool) (t : Tree N) → rows_of (turned n t) ≡ turned_rows n (rows_of t)
rows_turned false t = turned_none (rows_of t)
rows_turned true t = rows_negation t

-- the row at a position, turned
pub row_turned : {N : Type 0} (n : Bool) (rows : List (Row N)) (p : ℕ) → slice_get (turned_rows n rows) p ≡ option_map (turned_row n) (slice_get rows p)
row_turned n [] p = refl
row_turned n (r ∷ rs) zero = refl
row_turned n (r ∷ rs) (suc p) = row_turned n rs p

not_and : (a b : Bool) → (not a || not b) ≡ not (a && b)
not_and true b = refl
not_and false b = refl

not_or : (a b : Bool) → (not a && not b) ≡ not (a || b)
not_or true b = refl
not_or false b = refl

-- the negation is true exactly where the tree is not
pub negation_true : (w : World Node) (t : Tree Node) → tree_true w (negation t) ≡ not (tree_true w t)
negation_true w always = refl
negation_true w never = refl
negation_true w (leaf l) = contrary_true w l
negation_true w (both a b) =
    ap (λ x. x || tree_true w (negation b)) (negation_true w a) ∙ ap (λ x. not (tree_true w a) || x) (negation_true w b)
    ∙ not_and (tree_true w a) (tree_true w b)
negation_true w (either a b) =
    ap (λ x. x && tree_true w (negation b)) (negation_true w a) ∙ ap (λ x. not (tree_true w a) && x) (negation_true w b)
    ∙ not_or (tree_true w a) (tree_true w b)
