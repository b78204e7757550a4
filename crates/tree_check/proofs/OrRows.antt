-- The children of an Or of the tree, or of its negation, by the rows.
use Rattle.std.{proofs.Common.{◌≡◌, ◌<◌, ℕ, ◌+◌, Bool, true, List, Some, length, refl, sym, ◌∙◌, ap, arith}, specs.Prelude.{slice_get, option_map}}
use Rattle.pc_common.specs.World.{Node}
use Rattle.pc_ground.specs.declared.{node_key.NodeKey.{NodeKey}, row.{RowKind.{RowKind, TheVariants.{False, Lit, Or}}, Row.{Row}}}
use Rattle.pc_ground.specs.declared.literal.Literal.{Literal, TheVariants.{Node as a_node}}
use Rattle.pc_ground.specs.{Keys.{key_node, renamed, renamed_kind, row_node}, Tree.{Tree, never, either, contrary, turned, size_of}}
use Rattle.pc_ground.specs.{Rows.{rows_of, root_kind, turned_kind, turned_row, turned_rows, IsFlat}, Refutes.{subtree_at}}
use Rattle.pc_ground.proofs.FlatRows.{root_of, subtree_row, subtree_size, length_rows, children_either, or_subtree, size_pos, renamed_false}
use Rattle.pc_ground.proofs.{Turned.{size_turned, rows_turned, row_turned}, StageWalks.{some_same}}

pub root_inside : (rows : List (Row Node)) → IsFlat rows → 0 < length rows
root_inside rows (t, flat) = omega (arith, ap length flat, length_rows t, size_pos t)

-- the kind of a row of keys is that of the row of nodes
or_from : (k : RowKind NodeKey) → renamed_kind key_node k ≡ Or → k ≡ Or
or_from Or e = refl
or_from _ e = cc

row_kind : (t : Tree Node) (p : ℕ) (s : Tree Node) (r : Row NodeKey) → subtree_at t p ≡ Some s → slice_get (rows_of t) p ≡ Some (row_node r)
    → renamed_kind key_node r.kind ≡ root_kind s
row_kind t p s r at here =
    let same : row_node r ≡ root_of s = some_same (sym here ∙ subtree_row t p s at) in
    ap (λ (x : Row Node). x.kind) same

-- there is an Or at p
pub is_or : (t : Tree Node) (p : ℕ) (a b : Tree Node) (r : Row NodeKey) → subtree_at t p ≡ Some (either a b) → slice_get (rows_of t) p ≡ Some (row_node r)
    → r.kind ≡ Or
is_or t p a b r at here = or_from r.kind (row_kind t p (either a b) r at here)

-- the tree is False where its first row is
pub never_row : (t : Tree Node) (r : Row NodeKey) → slice_get (rows_of t) 0 ≡ Some (row_node r) → t ≡ never → r.kind ≡ False
never_row t r here e = renamed_false r.kind (row_kind t 0 t r refl here ∙ ap root_kind e)

pub row_never : (t : Tree Node) (r : Row NodeKey) → slice_get (rows_of t) 0 ≡ Some (row_node r) → r.kind ≡ False → t ≡ never
row_never t r here e = kind_never t (sym (row_kind t 0 t r refl here) ∙ ap (renamed_kind key_node) e)
  where
    kind_never : (t : Tree Node) → root_kind t ≡ False → t ≡ never
    kind_never never e = refl
    kind_never _ e = cc

-- the children of an Or at p, whose left one has the row q
pub record HasSides (t : Tree Node) (p : ℕ) (skip : ℕ) : Type 0 where
  pub left : Tree Node
  pub right : Tree Node
  pub at : subtree_at t p ≡ Some (either left right)
  pub skips : skip ≡ size_of left
  pub within : p + 1 + size_of left < size_of t

pub has_sides : (t : Tree Node) (p : ℕ) (r q : Row NodeKey) → slice_get (rows_of t) p ≡ Some (row_node r) → r.kind ≡ Or
    → slice_get (rows_of t) (p + 1) ≡ Some (row_node q)
    → HasSides t p q.skip
has_sides t p r q here is there =
    let o = or_subtree t p (row_node r) here (ap (renamed_kind key_node) is) in
    let a = o.0 in
    let b = o.1 in
    let below = children_either t p a b o.2 in
    let same : row_node q ≡ root_of a = some_same (sym there ∙ o.3) in record {
      left = a;
      right = b;
      at = o.2;
      skips = ap (λ (x : Row Node). x.skip) same;
      within = omega (arith, subtree_size t (p + 1 + size_of a) b below.1, size_pos b);
    }

-- the rows of the tree, or of its negation, by those of the tree
pub turned_flat : (n : Bool) (rows : List (Row Node)) (t : Tree Node) → rows ≡ rows_of t → turned_rows n rows ≡ rows_of (turned n t)
turned_flat n rows t flat = ap (turned_rows n) flat ∙ sym (rows_turned n t)

renamed_literal : (l : Literal NodeKey) → renamed key_node (contrary l) ≡ contrary (renamed key_node l)
renamed_literal (a_node a) = refl
renamed_literal _ = refl

renamed_turned : (n : Bool) (k : RowKind NodeKey) → turned_kind n (renamed_kind key_node k) ≡ renamed_kind key_node (turned_kind n k)
renamed_turned true (Lit l) = ap Lit (sym (renamed_literal l))
renamed_turned _ _ = refl

-- the row that the code turned
pub turned_here : (n : Bool) (rows : List (Row Node)) (p : ℕ) (r : Row NodeKey) → slice_get rows p ≡ Some (row_node r)
    → slice_get (turned_rows n rows) p ≡ Some (row_node (turned_row n r))
turned_here n rows p r here =
    let R : RowKind Node → Row Node = λ k. record { kind = k; skip = r.skip } in
    row_turned n rows p ∙ ap (option_map (turned_row n)) here ∙ ap (λ k. Some (R k)) (renamed_turned n r.kind)

pub turned_at : (n : Bool) (rows : List (Row Node)) (t : Tree Node) (p : ℕ) (r : Row NodeKey) → rows ≡ rows_of t → slice_get rows p ≡ Some (row_node r)
    → slice_get (rows_of (turned n t)) p ≡ Some (row_node (turned_row n r))
turned_at n rows t p r flat here = ap (λ xs. slice_get xs p) (sym (turned_flat n rows t flat)) ∙ turned_here n rows p r here

size_rows : (n : Bool) (rows : List (Row Node)) (t : Tree Node) → rows ≡ rows_of t → length rows ≡ size_of (turned n t)
size_rows n rows t flat = ap length flat ∙ length_rows t ∙ sym (size_turned n t)

pub left_inside : (n : Bool) (rows : List (Row Node)) (p : ℕ) (r : Row NodeKey) → IsFlat rows → slice_get rows p ≡ Some (row_node r)
    → turned_kind n r.kind ≡ Or → p + 1 < length rows
left_inside n rows p r (t, flat) here is =
    let u = turned n t in
    let o = or_subtree u p (row_node (turned_row n r)) (turned_at n rows t p r flat here) (ap (renamed_kind key_node) is) in
    let below = children_either u p o.0 o.1 o.2 in
    omega (arith, subtree_size u (p + 1) o.0 below.0, size_pos o.0, size_rows n rows t flat)

pub right_inside : (n : Bool) (rows : List (Row Node)) (p : ℕ) (r q : Row NodeKey) → IsFlat rows → slice_get rows p ≡ Some (row_node r)
    → turned_kind n r.kind ≡ Or → slice_get rows (p + 1) ≡ Some (row_node q) → p + 1 + q.skip < length rows
right_inside n rows p r q (t, flat) here is there =
    let s = has_sides (turned n t) p (turned_row n r) (turned_row n q) (turned_at n rows t p r flat here) is (turned_at n rows t (p + 1) q flat there) in
    omega (arith, s.within, s.skips, size_rows n rows t flat)

pub part_inside : (n : Bool) (rows : List (Row Node)) (t s : Tree Node) (p : ℕ) → rows ≡ rows_of t → subtree_at (turned n t) p ≡ Some s → p < length rows
part_inside n rows t s p flat at = omega (arith, subtree_size (turned n t) p s at, size_pos s, size_rows n rows t flat)
