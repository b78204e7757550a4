-- Flags for the truth of subtrees and for the positions of a branch, and the sides of an Or by its rows.
use Rattle.std.proofs.Common.{◌≡◌, ◌<◌, inl, inr, ℕ, ◌+◌, Bool, true, false, ◌&&◌, ◌||◌, List, Some, length, refl, sym, ap, ◌∙◌, arith}
use Rattle.std.{proofs.lemmas.{Bool.{and_from, or_left, or_right}, Option.{none-some}}, specs.Prelude.{slice_get, ◌↔◌, IsTrue}}
use Rattle.pc_ground.specs.declared.{literal.Literal.{Literal}, row.{Row.{Row}, RowKind.TheVariants.{True, False, Lit, And, Or}}, version.Version.{Version}}
use Rattle.pc_ground.specs.{declared.version.Version.TheVariants.{One, Two}, Literals.{Joins, IsPresent, Holds}}
use Rattle.pc_ground.specs.{Tree.{Tree, always, never, leaf, both, either, negation, turned, size_of}, Rows.{root_kind, rows_of}, Refutes.{Signed, subtree_at}}
use Rattle.pc_ground.proofs.Turned.{subtree_denied, size_negation, size_turned}
use Rattle.pc_ground.proofs.FlatRows.{length_rows, size_pos, subtree_size, subtree_past, children_both, children_either}
use Rattle.pc_common.{specs.Chain.{Chain}, proofs.Bools.{true_or_false, and_first, and_second, or_second}}
use Rattle.solver.specs.{Spelled.{spelled, IsSpelled}, Met.{IsMet}, Flags.{AreTruths, HasChildren, of_both, of_either, SomeChildren, AreChildFlags}}
use Rattle.solver.specs.{Places.{left_side, denied_left, right_side, IsOr, IsDeniedIn, AreSides}, declared.tree.side.Side.{Side}}
use Rattle.solver.proofs.HasAsserted.{root_row, row_root, length_spelled}

-- the two trees, each at its place
two_children : (t : Tree ℕ) (p right : ℕ) → HasChildren t p right
    → (a : Tree ℕ) × (b : Tree ℕ) × (subtree_at t (p + 1) ≡ Some a) × (subtree_at t right ≡ Some b) × (right ≡ p + 1 + size_of a)
two_children t p right (of_both a b e) = (let places = children_both t p a b e in (a, b, places.0, places.1, refl))
two_children t p right (of_either a b e) = (let places = children_either t p a b e in (a, b, places.0, places.1, refl))

pub children_inside : (rows : List (Row ℕ)) (p right : ℕ) → IsSpelled rows → HasChildren (spelled rows) p right → (p + 1 < length rows) × (right < length rows)
children_inside rows p right flat has =
    let k = two_children (spelled rows) p right has in
    let first = subtree_size (spelled rows) (p + 1) k.0 k.2 in
    let second = subtree_size (spelled rows) right k.1 k.3 in
    let len = length_spelled rows flat in
    (omega (arith, first, size_pos k.0, len), omega (arith, second, size_pos k.1, len))

pub right_is : (rows : List (Row ℕ)) (p right : ℕ) (r : Row ℕ) → IsSpelled rows → HasChildren (spelled rows) p right
    → slice_get rows (p + 1) ≡ Some r → right ≡ p + 1 + r.skip
right_is rows p right r flat has at =
    let k = two_children (spelled rows) p right has in
    omega (arith, k.4, ap (λ (x : Row ℕ). x.skip) (root_row rows (spelled rows) (p + 1) r k.0 flat at k.2))

-- the kind of a row is that of the tree that stands there
pub kind_at : (rows : List (Row ℕ)) (p : ℕ) (r : Row ℕ) (s : Tree ℕ) → IsSpelled rows → slice_get rows p ≡ Some r
    → subtree_at (spelled rows) p ≡ Some s → root_kind s ≡ r.kind
kind_at rows p r s flat at e = ap (λ (x : Row ℕ). x.kind) (sym (root_row rows (spelled rows) p r s flat at e))

both_of : {N : Type 0} (s : Tree N) → root_kind s ≡ And → (a : Tree N) × (b : Tree N) × (s ≡ both a b)
both_of (both a b) e = (a, b, refl)
both_of s e = cc

pub either_of : {N : Type 0} (s : Tree N) → root_kind s ≡ Or → (a : Tree N) × (b : Tree N) × (s ≡ either a b)
either_of (either a b) e = (a, b, refl)
either_of s e = cc

pub and_children : (rows : List (Row ℕ)) (p : ℕ) (r : Row ℕ) → IsSpelled rows → p < length rows → slice_get rows p ≡ Some r → r.kind ≡ And
    → SomeChildren (spelled rows) p
and_children rows p r flat inside at kind =
    let there = row_root rows (spelled rows) p r flat (omega (arith, inside, length_spelled rows flat)) at in
    let parts = both_of there.0 (sym (ap (λ (x : Row ℕ). x.kind) there.2) ∙ kind) in
    (p + 1 + size_of parts.0, of_both parts.0 parts.1 (there.1 ∙ ap Some parts.2))

pub or_tree : (rows : List (Row ℕ)) (t : Tree ℕ) (p : ℕ) (r : Row ℕ) → rows ≡ rows_of t → p < length rows → slice_get rows p ≡ Some r → r.kind ≡ Or
    → (a : Tree ℕ) × (b : Tree ℕ) × (subtree_at t p ≡ Some (either a b))
or_tree rows t p r flat inside at kind =
    let there = row_root rows t p r flat (omega (arith, inside, ap length flat, length_rows t)) at in
    let parts = either_of there.0 (sym (ap (λ (x : Row ℕ). x.kind) there.2) ∙ kind) in
    (parts.0, parts.1, there.1 ∙ ap Some parts.2)

pub or_children : (rows : List (Row ℕ)) (p : ℕ) (r : Row ℕ) → IsSpelled rows → p < length rows → slice_get rows p ≡ Some r → r.kind ≡ Or
    → SomeChildren (spelled rows) p
or_children rows p r flat inside at kind = (let parts = or_tree rows (spelled rows) p r flat inside at kind in
    (p + 1 + size_of parts.0, of_either parts.0 parts.1 parts.2))

pub met_always : (ls : List (Literal ℕ)) (s : Tree ℕ) → root_kind s ≡ True → IsTrue true ↔ IsMet ls s
met_always ls always e = ((λ h. tt), (λ h. refl))
met_always ls s e = cc

pub met_never : (ls : List (Literal ℕ)) (s : Tree ℕ) → root_kind s ≡ False → IsTrue false ↔ IsMet ls s
met_never ls never e = ((λ h. (let no : false ≡ true → ⊥ = λ k. cc in no h)), (λ h. absurd h))
met_never ls s e = cc

pub met_leaf : (ls : List (Literal ℕ)) (s : Tree ℕ) (l : Literal ℕ) (b : Bool) → root_kind s ≡ Lit l
    → IsTrue b ↔ Holds (IsPresent ls) (Chain (Joins ls)) l → IsTrue b ↔ IsMet ls s
met_leaf ls (leaf m) l b e h =
    let same : l ≡ m = (let other : m ≡ l = cc in sym other) in
    rw same at h
met_leaf ls s l b e h = cc

pub met_both : (t : Tree ℕ) (ls : List (Literal ℕ)) (p : ℕ) (flags : List Bool) (s : Tree ℕ) (pair : Bool × Bool) → root_kind s ≡ And → subtree_at t p ≡ Some s
    → AreTruths t ls (p + 1) flags → AreChildFlags t flags p pair → IsTrue (pair.0 && pair.1) ↔ IsMet ls s
met_both t ls p flags (both a b) pair e at truths children =
    let places = children_both t p a b at in
    let are = children (p + 1 + size_of a) (of_both a b at) in
    let left = truths (p + 1) a (omega arith) places.0 in
    let right = truths (p + 1 + size_of a) b (omega arith) places.1 in (
      (λ h. (left.0 (sym are.0 ∙ and_first pair.0 pair.1 h), right.0 (sym are.1 ∙ and_second pair.0 pair.1 h))),
      (λ h. and_from pair.0 pair.1 (are.0 ∙ left.1 h.0) (are.1 ∙ right.1 h.1)),
    )
met_both t ls p flags s pair e at truths children = cc

pub met_either : (t : Tree ℕ) (ls : List (Literal ℕ)) (p : ℕ) (flags : List Bool) (s : Tree ℕ) (pair : Bool × Bool) → root_kind s ≡ Or → subtree_at t p ≡ Some s
    → AreTruths t ls (p + 1) flags → AreChildFlags t flags p pair → IsTrue (pair.0 || pair.1) ↔ IsMet ls s
met_either t ls p flags (either a b) pair e at truths children =
    let places = children_either t p a b at in
    let are = children (p + 1 + size_of a) (of_either a b at) in
    let left = truths (p + 1) a (omega arith) places.0 in
    let right = truths (p + 1 + size_of a) b (omega arith) places.1 in (
      (λ h. elim (true_or_false pair.0) [
        | inl k ↦ inl (left.0 (sym are.0 ∙ k))
        | inr k ↦ inr (right.0 (sym are.1 ∙ or_second pair.0 pair.1 k h))
      ]),
      (λ h. elim h [
        | inl k ↦ or_left pair.0 pair.1 (are.0 ∙ left.1 k)
        | inr k ↦ or_right pair.0 pair.1 (are.1 ∙ right.1 k)
      ]),
    )
met_either t ls p flags s pair e at truths children = cc

-- no position is past the end
pub truths_none : (rows : List (Row ℕ)) (ls : List (Literal ℕ)) (from : ℕ) (flags : List Bool) → IsSpelled rows
    → from ≡ length rows → AreTruths (spelled rows) ls from flags
truths_none rows ls from flags flat e = λ p s past at.
    let none = subtree_past (spelled rows) p (omega (arith, past, e, length_spelled rows flat)) in
    absurd (none-some s (sym none ∙ at))

-- an Or of the tree or of its negation has the children of the tree's And or Or there
pub signed_children : (t : Tree ℕ) (n : Bool) (p : ℕ) (a b : Tree ℕ) → subtree_at (turned n t) p ≡ Some (either a b) → HasChildren t p (p + 1 + size_of a)
signed_children t false p a b e = of_either a b e
signed_children t true p a b e =
    rw (← size_negation a) (of_both (negation a) (negation b) (subtree_denied t true p (either a b) e))

pub or_sides : (rows : List (Row ℕ)) (v : Version) (q : Signed) (r : Row ℕ) (left right : Side) → IsSpelled rows → slice_get rows (q.position + 1) ≡ Some r
    → left ≡ left_side q → right ≡ right_side v q r.skip → AreSides v (spelled rows) q (left, right)
or_sides rows v q r left right flat at e f = λ a b is.
    let place : q.position + 1 + size_of a ≡ q.position + 1 + r.skip =
    right_is rows q.position (q.position + 1 + size_of a) r flat (signed_children (spelled rows) q.negated q.position a b is) at in
    let size : r.skip ≡ size_of a = omega (arith, place) in
    (e, f ∙ ap (right_side v q) size)

pub or_left_inside : (t : Tree ℕ) (q : Signed) → IsOr t q → q.position + 1 < size_of t
or_left_inside t q (a, b, e) =
    let n = q.negated in
    let children = children_either (turned n t) q.position a b e in
    let size = subtree_size (turned n t) (q.position + 1) a children.0 in
    omega (arith, size, size_pos a, size_turned n t)

pub or_right_inside : (rows : List (Row ℕ)) (q : Signed) (r : Row ℕ) → IsSpelled rows → IsOr (spelled rows) q → slice_get rows (q.position + 1) ≡ Some r
    → q.position + 1 + r.skip < size_of (spelled rows)
or_right_inside rows q r flat (a, b, e) at =
    let children = signed_children (spelled rows) q.negated q.position a b e in
    let inside = children_inside rows q.position (q.position + 1 + size_of a) flat children in
    let right = right_is rows q.position (q.position + 1 + size_of a) r flat children at in
    omega (arith, inside.1, right, length_spelled rows flat)

pub denied_in : (v : Version) (t : Tree ℕ) (left : ℕ) → left < size_of t → IsDeniedIn t (denied_left v left)
denied_in One t left inside = tt
denied_in Two t left inside = inside
