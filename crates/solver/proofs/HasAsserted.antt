-- Asserting a side: where a part's walk starts, one row more, one part more, and what a clash of a first part says of the whole.
use Rattle.std.proofs.Common.{◌≡◌, ◌≤◌, ◌<◌, ℕ, ◌+◌, Bool, true, false, List, [], ◌∷◌, ◌++◌, Option, Some, take, length, refl, sym, ap, ◌∙◌, subst, arith, append_assoc}
use Rattle.std.proofs.{lemmas.List.{append-nil, map_push, take-take, length-take, Elements.{All-contains, Contains-append_left}}, Math.Seq.{take-length, take-append_seam}}
use Rattle.std.{proofs.lemmas.{Option.{slice_get_within, get_or_from_slice_get}, Grind.{flat_map-append}}, specs.Prelude.{slice_get, All}}
use Rattle.pc_common.specs.{Chain.{Leads}, Steps.{Leaf}}
use Rattle.pc_ground.specs.declared.{literal.Literal.{Literal, TheVariants.{Node, Edge, NoNode, NoEdge}}, row.{Row.{Row}, RowKind.{RowKind}}}
use Rattle.pc_ground.specs.declared.row.RowKind.TheVariants.{Lit}
use Rattle.pc_ground.specs.Tree.{Tree, always, contrary, turned, size_of}
use Rattle.pc_ground.specs.{Rows.{rows_of, literals_of_kind, turned_kind, turned_row, turned_rows}, Literals.{Joins, IsPresent, as_node, as_start, as_end}}
use Rattle.pc_ground.specs.Refutes.{Signed, Branch, all_signed, subtree_at, part_at, asserted, literal_of, literals_of, IsContradiction, a_cycle, a_path, an_absence}
use Rattle.pc_ground.specs.Walks.{stride, Walk}
use Rattle.pc_ground.proofs.FlatRows.{root_of, row_subtree, subtree_within, subtree_row, subtree_size, length_rows, literal_by_row, literals_of_row}
use Rattle.pc_ground.proofs.{Walks.{walk_side, walk_turn, walk_within}, Turned.{size_turned}, StageWalks.{some_same}}
use Rattle.order_graph.specs.{Clashes.{leaf_of, IsClash}, State.{Graph}}
use Rattle.order_graph.specs.{declared.clash.Clash.{Clash}, Ways.{IsBelow}}
use Rattle.solver.specs.{Spelled.{spelled, IsSpelled}, Below.{IsKindBelow, IsRowBelow}, Places.{place_signed, asserted_in, asserted_at}}
use Rattle.solver.{specs.{Opens.{positions, IsFurther}, declared.tree.place.Place.{Place}}, proofs.IsSpelled.{turned_flat, turned_at}}

pub asserted_is : {N : Type 0} (t : Tree N) (n : Bool) (p : ℕ) (s : Tree N) → subtree_at (turned n t) p ≡ Some s
    → asserted_at t n p ≡ all_signed n (asserted s p)
asserted_is {N} t n p s e = ap (λ (o : Option (Tree N)). all_signed n (asserted_in o p)) e

-- the row at a position is its subtree's root
pub root_row : (rows : List (Row ℕ)) (t : Tree ℕ) (p : ℕ) (r : Row ℕ) (s : Tree ℕ) → rows ≡ rows_of t → slice_get rows p ≡ Some r
    → subtree_at t p ≡ Some s → r ≡ root_of s
root_row rows t p r s flat at e = some_same (sym at ∙ ap (λ xs. slice_get xs p) flat ∙ subtree_row t p s e)

pub row_root : (rows : List (Row ℕ)) (t : Tree ℕ) (p : ℕ) (r : Row ℕ) → rows ≡ rows_of t → p < size_of t → slice_get rows p ≡ Some r
    → (s : Tree ℕ) × (subtree_at t p ≡ Some s) × (r ≡ root_of s)
row_root rows t p r flat inside at = (let there = subtree_within t p inside in (there.0, there.1, root_row rows t p r there.0 flat at there.1))

pub length_spelled : (rows : List (Row ℕ)) → IsSpelled rows → length rows ≡ size_of (spelled rows)
length_spelled rows flat = ap length flat ∙ length_rows (spelled rows)

-- the walk over a part of the tree or of its negation, which ends where its rows do
pub walk_start : (rows : List (Row ℕ)) (n : Bool) (root : ℕ) (r : Row ℕ) → IsSpelled rows → root < size_of (spelled rows) → slice_get rows root ≡ Some r
    → (root + r.skip ≤ length rows) × Walk (turned_rows n rows) (root + r.skip) root (asserted_in (subtree_at (turned n (spelled rows)) root) root)
walk_start rows n root r flat inside at =
    let t = turned n (spelled rows) in
    let whole = size_turned n (spelled rows) in
    let flat_turned = turned_flat n rows flat in
    let there = row_root (turned_rows n rows) t root (turned_row n r) flat_turned (omega (arith, inside, whole)) (turned_at n rows root r (turned_row n r) at refl) in
    let s = there.0 in
    let skip : r.skip ≡ size_of s = ap (λ (x : Row ℕ). x.skip) there.2 in
    let size = subtree_size t root s there.1 in
    (omega (arith, skip, size, whole, length_spelled rows flat), rw (flat_turned, skip, there.1) (walk_side t root s there.1))

pub walk_step : (rows : List (Row ℕ)) (end at : ℕ) (ps : List ℕ) (r : Row ℕ) → Walk rows end at ps → at < end → slice_get rows at ≡ Some r
    → (rest : List ℕ) × (ps ≡ at ∷ rest) × Walk rows end (at + stride r) rest × (at + stride r ≤ end)
walk_step rows end at ps r walk before here =
    let turn = walk_turn walk before in
    let next = rw (some_same (sym turn.2 ∙ here)) at turn.4 in
    (turn.1, turn.3, next, walk_within next)

-- literals of some positions more
pub literals_more : (t : Tree ℕ) (ps qs : Branch) → literals_of t (ps ++ qs) ≡ literals_of t ps ++ literals_of t qs
literals_more t ps qs = flat_map-append (λ q. literal_of (part_at t q)) ps qs

pub positions_push : (new old : List Place) (q : Place) → new ≡ old ++ q ∷ [] → positions new ≡ positions old ++ place_signed q ∷ []
positions_push new old q e = ap positions e ∙ map_push place_signed old q

literal_here : (rows : List (Row ℕ)) (q : Signed) (r : Row ℕ) → IsSpelled rows → slice_get (turned_rows q.negated rows) q.position ≡ Some r
    → literals_of (spelled rows) (q ∷ []) ≡ literals_of_kind r.kind
literal_here rows q r flat at =
    let t = turned q.negated (spelled rows) in
    append-nil (literal_of (subtree_at t q.position)) ∙ literal_by_row t q.position
    ∙ ap literals_of_row (ap (λ xs. slice_get xs q.position) (sym (turned_flat q.negated rows flat)) ∙ at)

-- the literals once a row is entered
pub literals_push : (rows : List (Row ℕ)) (q : Signed) (r : Row ℕ) (ps qs : Branch) (ls ms : List (Literal ℕ)) → IsSpelled rows
    → slice_get (turned_rows q.negated rows) q.position ≡ Some r
    → ls ≡ literals_of (spelled rows) ps → ms ≡ ls ++ literals_of_kind r.kind → qs ≡ ps ++ q ∷ [] → ms ≡ literals_of (spelled rows) qs
literals_push rows q r ps qs ls ms flat at e f g =
    let t = spelled rows in
    f ∙ ap (λ xs. xs ++ literals_of_kind r.kind) e ∙ ap (λ xs. literals_of t ps ++ xs) (sym (literal_here rows q r flat at))
    ∙ sym (literals_more t ps (q ∷ [])) ∙ ap (literals_of t) (sym g)

pub further_same : (g : Graph) → IsFurther g g
further_same g = record { same_nodes = refl; same_marks = refl; literals = take-length g.literals }

pub take_through : {X : Type 0} (xs ys zs : List X) → take (length xs) ys ≡ xs → take (length ys) zs ≡ ys → take (length xs) zs ≡ xs
take_through xs ys zs e f =
    let within : length xs ≤ length ys = omega (arith, ap length e, length-take (length xs) ys) in
    sym (take-take (length xs) (length ys) zs within) ∙ ap (take (length xs)) f ∙ e

pub further_more : (f g h : Graph) → IsFurther f g → IsFurther g h → IsFurther f h
further_more f g h a b = record {
  same_nodes = b.same_nodes ∙ a.same_nodes;
  same_marks = b.same_marks ∙ a.same_marks;
  literals = take_through f.literals g.literals h.literals a.literals b.literals;
}

pub kept_push : {X : Type 0} (xs ys zs : List X) (x : X) → take (length xs) ys ≡ xs → zs ≡ ys ++ x ∷ [] → take (length xs) zs ≡ xs
kept_push xs ys zs x e f = take_through xs ys zs e (ap (take (length ys)) f ∙ take-append_seam ys (x ∷ []))

leads_more : (ls ms : List (Literal ℕ)) (a : ℕ) (via : List ℕ) (b : ℕ) → Leads (Joins ls) a via b → Leads (Joins (ls ++ ms)) a via b
leads_more ls ms a [] b h = Contains-append_left ls ms (Edge a b) h
leads_more ls ms a (x ∷ xs) b h = (Contains-append_left ls ms (Edge a x) h.0, leads_more ls ms x xs b h.1)

present_more : (ls ms : List (Literal ℕ)) (a : ℕ) → IsPresent ls a → IsPresent (ls ++ ms) a
present_more ls ms a (as_node h) = as_node (Contains-append_left ls ms (Node a) h)
present_more ls ms a (as_start b h) = as_start b (Contains-append_left ls ms (Edge a b) h)
present_more ls ms a (as_end b h) = as_end b (Contains-append_left ls ms (Edge b a) h)

-- a clash of a first part is one of the whole
contradiction_more : (ls ms : List (Literal ℕ)) (l : Leaf ℕ) → IsContradiction ls l → IsContradiction (ls ++ ms) l
contradiction_more ls ms l (a_cycle a via h) = a_cycle a via (leads_more ls ms a via a h)
contradiction_more ls ms l (a_path a via b h d) = a_path a via b (leads_more ls ms a via b h) (Contains-append_left ls ms (NoEdge a b) d)
contradiction_more ls ms l (an_absence a d p) = an_absence a (Contains-append_left ls ms (NoNode a) d) (present_more ls ms a p)

-- the first rows of a part clash, so all of them do
pub part_clash : (rows : List (Row ℕ)) (q : Signed) (r : Row ℕ) (ps rest whole : Branch) (ls : List (Literal ℕ)) (k : Clash) → IsSpelled rows
    → slice_get (turned_rows q.negated rows) q.position ≡ Some r
    → ls ≡ literals_of (spelled rows) ps → ps ++ q ∷ rest ≡ whole → IsClash (ls ++ literals_of_kind r.kind) k → IsClash (literals_of (spelled rows) whole) k
part_clash rows q r ps rest whole ls k flat at e f c =
    let t = spelled rows in
    let first : ls ++ literals_of_kind r.kind ≡ literals_of t (ps ++ q ∷ []) =
    literals_push rows q r ps (ps ++ q ∷ []) ls (ls ++ literals_of_kind r.kind) flat at e refl refl in
    let all : literals_of t (ps ++ q ∷ []) ++ literals_of t rest ≡ literals_of t whole =
    sym (literals_more t (ps ++ q ∷ []) rest) ∙ ap (literals_of t) (append_assoc ps (q ∷ []) rest ∙ f) in
    rw (← all, ← first) (contradiction_more (ls ++ literals_of_kind r.kind) (literals_of t rest) (leaf_of k) c)

-- the positions so far and those that the walk still comes to, once a row is entered
pub whole_push : (new old : List Place) (q : Place) (ps rest : List ℕ) (whole : Branch) → new ≡ old ++ q ∷ [] → ps ≡ q.position ∷ rest
    → positions old ++ all_signed q.negated ps ≡ whole → positions new ++ all_signed q.negated rest ≡ whole
whole_push new old q ps rest whole e f g =
    ap (λ xs. xs ++ all_signed q.negated rest) (positions_push new old q e) ∙ append_assoc (positions old) (place_signed q ∷ []) (all_signed q.negated rest)
    ∙ ap (λ xs. positions old ++ all_signed q.negated xs) (sym f) ∙ g

-- a clash of the first part is one of all
pub asserted_clash : (t : Tree ℕ) (first more : Branch) (old : List Place) (k : Clash) → IsClash (literals_of t (positions old ++ first)) k
    → IsClash (literals_of t (positions old ++ (first ++ more))) k
asserted_clash t first more old k c =
    rw (← append_assoc (positions old) first more, literals_more t (positions old ++ first) more)
    (contradiction_more (literals_of t (positions old ++ first)) (literals_of t more) (leaf_of k) c)

root_stride : {N : Type 0} (s : Tree N) → 0 < stride (root_of s)
root_stride always = omega arith
root_stride s = omega arith

pub stride_pos : (rows : List (Row ℕ)) (t : Tree ℕ) (p : ℕ) (r : Row ℕ) → rows ≡ rows_of t → slice_get rows p ≡ Some r → 0 < stride r
stride_pos rows t p r flat at =
    let there = row_subtree t p r (ap (λ xs. slice_get xs p) (sym flat) ∙ at) in
    rw (← there.2) (root_stride there.0)

-- a row turned is over the same numbers
pub turned_below : (n : ℕ) (negated : Bool) (r q : Row ℕ) → IsRowBelow n r → q ≡ turned_row negated r → IsRowBelow n q
turned_below n negated r q below e = (let P : Row ℕ → Type 0 = IsRowBelow n in subst P (sym e) (of_kind negated r.kind below))
  where
    of_literal : (l : Literal ℕ) → IsBelow n l → IsBelow n (contrary l)
    of_literal (Node a) h = h
    of_literal l h = h

    of_kind : (m : Bool) (k : RowKind ℕ) → IsKindBelow n k → IsKindBelow n (turned_kind m k)
    of_kind false k h = h
    of_kind true (Lit l) h = of_literal l h
    of_kind true k h = tt

-- the row at a position is over numbers below n
pub row_below : (n : ℕ) (rows : List (Row ℕ)) (p : ℕ) (r : Row ℕ) → All (IsRowBelow n) rows → slice_get rows p ≡ Some r → IsRowBelow n r
row_below n rows p r all at = All-contains (IsRowBelow n) rows r all (p, slice_get_within rows p r at, get_or_from_slice_get rows p r r at)
