-- A clash of asserted literals closes a branch: over numbers, and so over nodes.
use Rattle.std.proofs.Common.{◌≡◌, ◌<◌, inl, inr, ℕ, Bool, List, [], ◌∷◌, ◌++◌, map, length, get_or, Option, refl, sym, ap, ◌∙◌}
use Rattle.std.proofs.lemmas.{List.{map_push, Elements.{All-contains, All-nil, All-cons, All-push, All-append, All-map, All-weaker}}, Option.{slice_get_cases, slice_get_read, slice_get-map}}
use Rattle.std.specs.{Prelude.{Contains, All, slice_get}, Option.{unwrap_or, option_map}}
use Rattle.pc_ground.specs.declared.{node_key.NodeKey.{NodeKey}, row.{Row.{Row}, RowKind.{RowKind, TheVariants.{Lit}}}}
use Rattle.pc_ground.specs.{declared.literal.Literal.{Literal, TheVariants.{Node, Edge, NoNode, NoEdge}}, Rows.{literals_of_kind, turned_row, turned_rows}}
use Rattle.pc_ground.specs.{Keys.{renamed, key_node}, Tree.{Tree, turned}, Literals.{Joins, IsPresent, as_node, as_start, as_end}}
use Rattle.pc_ground.specs.Refutes.{Branch, part_at, literal_of, literals_of, IsContradiction, a_cycle, a_path, an_absence, Closes, a_contradiction}
use Rattle.pc_ground.proofs.FlatRows.{literal_by_row, literals_of_row}
use Rattle.solver.specs.{Spelled.{spelled, IsSpelled}, Below.{IsKindBelow, IsRowBelow}, Renamed.{tree_over, node_at, renamed_leaf}}
use Rattle.solver.{specs.Leaves.{IsLeafBelow}, proofs.{RenamedTree.{literals_renamed}, IsSpelled.{turned_flat}}}
use Rattle.solver.proofs.HasAsserted.{turned_below}
use Rattle.pc_common.specs.{World.{Node as PlainNode}, Chain.{Leads}, Steps.{Leaf}}
use Rattle.pc_common.proofs.Elements.{in_from_contains, contains_from_in, in_map}
use Rattle.refutation.specs.Steps.{HasItsNodes}
use Rattle.order_graph.specs.{Ways.{IsBelow}, Clashes.{leaf_of, IsClash}, declared.clash.Clash.{Clash}}

renamed_in : {M N : Type 0} (f : M → N) (l : Literal M) (ls : List (Literal M)) → Contains ls l → Contains (map (renamed f) ls) (renamed f l)
renamed_in f l ls h = contains_from_in (renamed f l) (map (renamed f) ls) (in_map (renamed f) l ls (in_from_contains l ls h))

pub renamed_leads : {M N : Type 0} (f : M → N) (ls : List (Literal M)) (a : M) (via : List M) (b : M) → Leads (Joins ls) a via b
    → Leads (Joins (map (renamed f) ls)) (f a) (map f via) (f b)
renamed_leads f ls a [] b h = renamed_in f (Edge a b) ls h
renamed_leads f ls a (x ∷ xs) b h = (renamed_in f (Edge a x) ls h.0, renamed_leads f ls x xs b h.1)

pub renamed_present : {M N : Type 0} (f : M → N) (ls : List (Literal M)) (a : M) → IsPresent ls a → IsPresent (map (renamed f) ls) (f a)
renamed_present f ls a (as_node h) = as_node (renamed_in f (Node a) ls h)
renamed_present f ls a (as_start b h) = as_start (f b) (renamed_in f (Edge a b) ls h)
renamed_present f ls a (as_end b h) = as_end (f b) (renamed_in f (Edge b a) ls h)

contradiction_renamed : {M N : Type 0} (f : M → N) (ls : List (Literal M)) (l : Leaf M) → IsContradiction ls l
    → IsContradiction (map (renamed f) ls) (renamed_leaf f l)
contradiction_renamed f ls l (a_cycle a via leads) = a_cycle (f a) (map f via) (renamed_leads f ls a via a leads)
contradiction_renamed f ls l (a_path a via b leads has) =
    rw (map_push f via b) (a_path (f a) (map f via) (f b) (renamed_leads f ls a via b leads) (renamed_in f (NoEdge a b) ls has))
contradiction_renamed f ls l (an_absence a has present) = an_absence (f a) (renamed_in f (NoNode a) ls has) (renamed_present f ls a present)

-- the leaf of a clash closes the branch
pub clash_closes : (nodes : List PlainNode) (t : Tree ℕ) (ps : Branch) (k : Clash) → IsClash (literals_of t ps) k
    → Closes (tree_over nodes t) (literals_of (tree_over nodes t) ps) (renamed_leaf (node_at nodes) (leaf_of k))
clash_closes nodes t ps k c =
    a_contradiction (rw (literals_renamed (node_at nodes) t ps) (contradiction_renamed (node_at nodes) (literals_of t ps) (leaf_of k) c))

pub has_nodes : (f : ℕ → PlainNode) (ls : List (Literal ℕ)) (l : Leaf ℕ) → IsContradiction ls l → HasItsNodes (renamed_leaf f l)
has_nodes f ls l (a_path a [] b leads has) = tt
has_nodes f ls l c = tt

leads_below : (n : ℕ) (ls : List (Literal ℕ)) → All (IsBelow n) ls → (a : ℕ) (via : List ℕ) (b : ℕ) → Leads (Joins ls) a via b
    → (a < n) × All (λ k. k < n) via × (b < n)
leads_below n ls all a [] b h = (let e = All-contains (IsBelow n) ls (Edge a b) all h in (e.0, All-nil (λ k. k < n), e.1))
leads_below n ls all a (x ∷ xs) b h =
    let e = All-contains (IsBelow n) ls (Edge a x) all h.0 in
    let rest = leads_below n ls all x xs b h.1 in
    (e.0, All-cons (λ k. k < n) x xs rest.0 rest.1, rest.2)

pub leaf_below : (n : ℕ) (ls : List (Literal ℕ)) (l : Leaf ℕ) → All (IsBelow n) ls → IsContradiction ls l → IsLeafBelow n l
leaf_below n ls l all (a_cycle a via leads) = (let b = leads_below n ls all a via a leads in All-cons (λ k. k < n) a via b.0 b.1)
leaf_below n ls l all (a_path a via b leads has) =
    let P : ℕ → Type 0 = λ k. k < n in
    let h = leads_below n ls all a via b leads in
    All-cons P a (via ++ b ∷ []) h.0 (All-push P via b h.1 h.2)
leaf_below n ls l all (an_absence a has present) = All-contains (IsBelow n) ls (NoNode a) all has

literals_of_below : (n : ℕ) (k : RowKind ℕ) → IsKindBelow n k → All (IsBelow n) (literals_of_kind k)
literals_of_below n (Lit l) h = All-cons (IsBelow n) l [] h (All-nil (IsBelow n))
literals_of_below n k h = All-nil (IsBelow n)

turned_all : (n : ℕ) (m : Bool) (rows : List (Row ℕ)) → All (IsRowBelow n) rows → All (IsRowBelow n) (turned_rows m rows)
turned_all n m rows all =
    All-map (IsRowBelow n) (turned_row m) rows
    (All-weaker (IsRowBelow n) (λ r. IsRowBelow n (turned_row m r)) (λ r h. turned_below n m r (turned_row m r) h refl) rows all)

row_literals_below : (n : ℕ) (rows : List (Row ℕ)) (p : ℕ) → All (IsRowBelow n) rows → All (IsBelow n) (literals_of_row (slice_get rows p))
row_literals_below n rows p all =
    elim (slice_get_cases rows p).1 [
      | inl here ↦ rw here.2 (literals_of_below n here.0.kind (All-contains (IsRowBelow n) rows here.0 all (p, here.1, here.3)))
      | inr past ↦ rw past.1 (All-nil (IsBelow n))
    ]

-- the nodes of a tree's literals are numbers below n
pub literals_below : (n : ℕ) (rows : List (Row ℕ)) (ps : Branch) → IsSpelled rows → All (IsRowBelow n) rows → All (IsBelow n) (literals_of (spelled rows) ps)
literals_below n rows [] flat all = All-nil (IsBelow n)
literals_below n rows (q ∷ ps) flat all =
    let t = spelled rows in
    let m = q.negated in
    let here : literal_of (part_at t q) ≡ literals_of_row (slice_get (turned_rows m rows) q.position) =
    literal_by_row (turned m t) q.position ∙ ap (λ xs. literals_of_row (slice_get xs q.position)) (sym (turned_flat m rows flat)) in
    rw here (All-append (IsBelow n) (literals_of_row (slice_get (turned_rows m rows) q.position)) (literals_of t ps)
    (row_literals_below n (turned_rows m rows) q.position (turned_all n m rows all)) (literals_below n rows ps flat all))

pub key_is : (keys : List NodeKey) (k : ℕ) (x : NodeKey) → k < length keys → x ≡ get_or keys k x → key_node x ≡ node_at (map key_node keys) k
unfolding node_at
key_is keys k x inside is =
    let at = slice_get_read keys (length keys) k x refl inside is in
    let other : PlainNode = record { op = 0; core = 0; stage = 0 } in
    sym (ap (λ (o : Option PlainNode). unwrap_or o other) (slice_get-map key_node keys k ∙ ap (option_map key_node) at))
