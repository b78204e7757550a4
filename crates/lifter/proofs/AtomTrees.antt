-- A term of a closed formula names a node, so no member of a list is a constant.
use Rattle.std.proofs.Common.{◌≡◌, ℕ, zero, suc, ◌-◌, inl, inr, Bool, true, false, List, [], ◌∷◌, Option, Some, None, map, drop, length, refl, sym, ◌∙◌, ap, subst, length-drop}
use Rattle.std.{proofs.lemmas.Option.{slice_get-map}, specs.{Prelude.{slice_get, unwrap_or}, Option.{option_map}}}
use Rattle.pc_common.{specs.{Case.{Case, MicroOp}, World.{Node}}, proofs.{Elements.{In}, Places.{there_at}}}
use Rattle.pc_syntax.specs.declared.{term.Sort.{Sort, TheVariants.{Microop, Core as core_sort}}, bound.Bound.{Bound, TheVariants.{Op, Core}}}
use Rattle.pc_syntax.specs.declared.closed_term.{ClosedArg.{ClosedArg, TheVariants.{Slot, Core as core_arg, Plain}}, ClosedNode.{ClosedNode}}
use Rattle.pc_syntax.specs.{declared.closed_term.ClosedEdge.{ClosedEdge}, Truth.{Meaning, a_core, op_of, core_of}}
use Rattle.pc_syntax.specs.Closed.{PlainClosed, closed_nodes, closed_edges, meaning_of, value_at, closed_core, closed_node}
use Rattle.pc_syntax.specs.IsClosed.{IsClosed, IsBound, FitsCore, FitsNode, FitNodes, FitEdges}
use Rattle.pc_ground.specs.Unfolded.{node_said, edge_said}
use Rattle.static_preds.{specs.{Slots.{AreInRange}, Values.{meanings, sort_bound, scope_of}}, proofs.Terms.{node_named}}
use Rattle.lifted_facts.specs.PlainFacts.{said}
use Rattle.lifter.specs.{Trees.{signed_tree, said_tree, joined_trees, node_tree, edge_tree, fact_tree}, declared.kind.FactKind.TheVariants.{Open}}
use Rattle.lifter.{specs.Kinds.{kind_of, kind_over}, proofs.{TreeLaws.{nodes_tree, edges_tree}, KindLaws.{kind_of_members}}}

-- a slot of this sort
sorted : (slot : Option Bound) (sort : Sort) → option_map sort_bound slot ≡ Some sort → (b : Bound) × (slot ≡ Some b) × (sort_bound b ≡ sort)
sorted None sort e = cc
sorted (Some b) sort e = (b, refl, cc)

op_bound : (slots : List Bound) (k : ℕ) (b : Bound) → slice_get slots k ≡ Some b → sort_bound b ≡ Microop → (i : ℕ) × (slice_get slots k ≡ Some (Op i))
op_bound slots k (Op i) there e = (i, there)
op_bound slots k (Core n) there e = cc

core_bound : (slots : List Bound) (k : ℕ) (b : Bound) → slice_get slots k ≡ Some b → sort_bound b ≡ core_sort → (n : ℕ) × (slice_get slots k ≡ Some (Core n))
core_bound slots k (Op i) there e = cc
core_bound slots k (Core n) there e = (n, there)

value_here : (slots : List Bound) (k : ℕ) (b : Bound) → slice_get slots k ≡ Some b → value_at (meanings slots) k ≡ meaning_of b
value_here slots k b there = ap (λ (o : Option Meaning). unwrap_or o (a_core 0)) (slice_get-map meaning_of slots k ∙ ap (option_map meaning_of) there)

scoped : (slots : List Bound) (k : ℕ) (sort : Sort) → IsBound (scope_of slots) k sort → (b : Bound) × (slice_get slots k ≡ Some b) × (sort_bound b ≡ sort)
scoped slots k sort e = sorted (slice_get slots k) sort (sym (slice_get-map sort_bound slots k) ∙ e)

core_here : (slots : List Bound) (o : MicroOp) (core : Option ClosedArg) → FitsCore (scope_of slots) core
    → (n : ℕ) × (closed_core (meanings slots) o core ≡ Some n)
core_here slots o None fit = (o.core, refl)
core_here slots o (Some (Slot k)) fit =
    let s = scoped slots k core_sort fit in
    let n = core_bound slots k s.0 s.1 s.2 in
    (n.0, ap (λ (v : Meaning). core_of (Some v)) (value_here slots k (Core n.0) n.1))
core_here slots o (Some (core_arg n)) fit = (n, refl)
core_here slots o (Some (Plain name)) fit = elim fit [ ]

pub node_is : (c : Case) (slots : List Bound) (t : ClosedNode) → FitsNode (scope_of slots) t → AreInRange c slots
    → (a : Node) × (closed_node c (meanings slots) t ≡ Some a)
node_is c slots t fit range =
    let s = scoped slots t.op Microop fit.0 in
    let i = op_bound slots t.op s.0 s.1 s.2 in
    let o = there_at c.ops i.0 (range.ops t.op i.0 i.1) in
    let n = core_here slots o.0 t.core fit.1 in
    (_, node_named c (meanings slots) t i.0 n.0 o.0 (ap (λ (v : Meaning). op_of (Some v)) (value_here slots t.op (Op i.0) i.1)) o.1 n.1)

open_node : (plus : Bool) (a : Option Node) (b : Node) → a ≡ Some b → kind_of (signed_tree plus (node_said a)) ≡ Open
open_node true a b e = ap (λ (o : Option Node). kind_of (signed_tree true (node_said o))) e
open_node false a b e = ap (λ (o : Option Node). kind_of (signed_tree false (node_said o))) e

open_edge : (plus : Bool) (a b : Option Node) (x y : Node) → a ≡ Some x → b ≡ Some y → kind_of (signed_tree plus (edge_said a b)) ≡ Open
open_edge true a b x y e f =
    ap (λ (o : Option Node). kind_of (signed_tree true (edge_said o b))) e ∙ ap (λ (o : Option Node). kind_of (signed_tree true (edge_said (Some x) o))) f
open_edge false a b x y e f =
    ap (λ (o : Option Node). kind_of (signed_tree false (edge_said o b))) e ∙ ap (λ (o : Option Node). kind_of (signed_tree false (edge_said (Some x) o))) f

fits_in : (slots : List Bound) (ts : List ClosedNode) (t : ClosedNode) → FitNodes (scope_of slots) ts → In t ts → FitsNode (scope_of slots) t
fits_in slots [] t fit i = elim i [ ]
fits_in slots (u ∷ ts) t fit (inl e) = subst (FitsNode (scope_of slots)) e fit.0
fits_in slots (u ∷ ts) t fit (inr i) = fits_in slots ts t fit.1 i

abbrev FitsEdge : List Bound → ClosedEdge → Type 0
FitsEdge slots t = FitsNode (scope_of slots) t.from × FitsNode (scope_of slots) t.to

edge_in : (slots : List Bound) (ts : List ClosedEdge) (t : ClosedEdge) → FitEdges (scope_of slots) ts → In t ts → FitsEdge slots t
edge_in slots [] t fit i = elim i [ ]
edge_in slots (u ∷ ts) t fit (inl e) = subst (FitsEdge slots) e (fit.0, fit.1)
edge_in slots (u ∷ ts) t fit (inr i) = edge_in slots ts t fit.2 i

in_drop : {X : Type 0} (xs : List X) (s : ℕ) (x : X) → In x (drop s xs) → In x xs
in_drop [] zero x i = i
in_drop [] (suc s) x i = i
in_drop (y ∷ ys) zero x i = i
in_drop (y ∷ ys) (suc s) x i = inr (in_drop ys s x i)

pub open_nodes : (c : Case) (slots : List Bound) (plus : Bool) (ts : List ClosedNode) (s : ℕ) → FitNodes (scope_of slots) ts → AreInRange c slots
    → (t : ClosedNode) → In t (drop s ts) → kind_of (node_tree c plus (meanings slots) t) ≡ Open
open_nodes c slots plus ts s fit range t i =
    let a = node_is c slots t (fits_in slots ts t fit (in_drop ts s t i)) range in
    open_node plus (closed_node c (meanings slots) t) a.0 a.1

pub open_edges : (c : Case) (slots : List Bound) (plus : Bool) (ts : List ClosedEdge) (s : ℕ) → FitEdges (scope_of slots) ts → AreInRange c slots
    → (t : ClosedEdge) → In t (drop s ts) → kind_of (edge_tree c plus (meanings slots) t) ≡ Open
open_edges c slots plus ts s fit range t i =
    let f = edge_in slots ts t fit (in_drop ts s t i) in
    let a = node_is c slots t.from f.0 range in
    let b = node_is c slots t.to f.1 range in
    open_edge plus (closed_node c (meanings slots) t.from) (closed_node c (meanings slots) t.to) a.0 b.0 a.1 b.1

-- which constant a list is: none, or the one of a list without members
module _ (c : Case) (slots : List Bound) (range : AreInRange c slots) where
  pub nodes_kind : (plus : Bool) (f : PlainClosed) (ts : List ClosedNode) → f ≡ closed_nodes ts → IsClosed (scope_of slots) f
      → kind_of (said_tree c plus f (meanings slots)) ≡ kind_over plus (length ts)
  nodes_kind plus f ts e closed =
      let fit : FitNodes (scope_of slots) ts = subst (IsClosed (scope_of slots)) e closed in
      ap (λ x. kind_of (said_tree c plus x (meanings slots))) e ∙ ap kind_of (nodes_tree c (meanings slots) plus ts)
      ∙ kind_of_members plus (node_tree c plus (meanings slots)) ts (open_nodes c slots plus ts 0 fit range)

  pub edges_kind : (plus : Bool) (f : PlainClosed) (ts : List ClosedEdge) → f ≡ closed_edges ts → IsClosed (scope_of slots) f
      → kind_of (said_tree c plus f (meanings slots)) ≡ kind_over plus (length ts)
  edges_kind plus f ts e closed =
      let fit : FitEdges (scope_of slots) ts = subst (IsClosed (scope_of slots)) e closed in
      ap (λ x. kind_of (said_tree c plus x (meanings slots))) e ∙ ap kind_of (edges_tree c (meanings slots) plus ts)
      ∙ kind_of_members plus (edge_tree c plus (meanings slots)) ts (open_edges c slots plus ts 0 fit range)

  fit_nodes : (f : PlainClosed) (ts : List ClosedNode) → f ≡ closed_nodes ts → IsClosed (scope_of slots) f → FitNodes (scope_of slots) ts
  fit_nodes f ts e closed = subst (IsClosed (scope_of slots)) e closed

  fit_edges : (f : PlainClosed) (ts : List ClosedEdge) → f ≡ closed_edges ts → IsClosed (scope_of slots) f → FitEdges (scope_of slots) ts
  fit_edges f ts e closed = subst (IsClosed (scope_of slots)) e closed

  pub nodes_left : (ts : List ClosedNode) (s : ℕ) → FitNodes (scope_of slots) ts
      → kind_of (joined_trees false (map (node_tree c false (meanings slots)) (drop s ts))) ≡ kind_over false (length ts - s)
  nodes_left ts s fit =
      kind_of_members false (node_tree c false (meanings slots)) (drop s ts) (open_nodes c slots false ts s fit range) ∙ ap (kind_over false) (length-drop s ts)

  pub edges_left : (ts : List ClosedEdge) (s : ℕ) → FitEdges (scope_of slots) ts
      → kind_of (joined_trees false (map (edge_tree c false (meanings slots)) (drop s ts))) ≡ kind_over false (length ts - s)
  edges_left ts s fit =
      kind_of_members false (edge_tree c false (meanings slots)) (drop s ts) (open_edges c slots false ts s fit range) ∙ ap (kind_over false) (length-drop s ts)

  -- the same of a fact, by its sign
  pub nodes_held : (f : PlainClosed) (ts : List ClosedNode) (s : ℕ) (plus : Bool) → f ≡ closed_nodes ts → IsClosed (scope_of slots) f → plus ≡ true
      → kind_of (fact_tree c (said plus f (meanings slots) s)) ≡ kind_over true (length ts)
  nodes_held f ts s plus e closed held =
      ap (λ x. kind_of (fact_tree c (said plus x (meanings slots) s))) e ∙ ap (λ b. kind_of (fact_tree c (said b (closed_nodes ts) (meanings slots) s))) held
      ∙ nodes_kind true (closed_nodes ts) ts refl (fit_nodes f ts e closed)

  pub nodes_denied : (f : PlainClosed) (ts : List ClosedNode) (s : ℕ) (plus : Bool) → f ≡ closed_nodes ts → IsClosed (scope_of slots) f → plus ≡ false
      → kind_of (fact_tree c (said plus f (meanings slots) s)) ≡ kind_over false (length ts - s)
  nodes_denied f ts s plus e closed denied =
      ap (λ x. kind_of (fact_tree c (said plus x (meanings slots) s))) e ∙ ap (λ b. kind_of (fact_tree c (said b (closed_nodes ts) (meanings slots) s))) denied
      ∙ nodes_left ts s (fit_nodes f ts e closed)

  pub edges_held : (f : PlainClosed) (ts : List ClosedEdge) (s : ℕ) (plus : Bool) → f ≡ closed_edges ts → IsClosed (scope_of slots) f → plus ≡ true
      → kind_of (fact_tree c (said plus f (meanings slots) s)) ≡ kind_over true (length ts)
  edges_held f ts s plus e closed held =
      ap (λ x. kind_of (fact_tree c (said plus x (meanings slots) s))) e ∙ ap (λ b. kind_of (fact_tree c (said b (closed_edges ts) (meanings slots) s))) held
      ∙ edges_kind true (closed_edges ts) ts refl (fit_edges f ts e closed)

  pub edges_denied : (f : PlainClosed) (ts : List ClosedEdge) (s : ℕ) (plus : Bool) → f ≡ closed_edges ts → IsClosed (scope_of slots) f → plus ≡ false
      → kind_of (fact_tree c (said plus f (meanings slots) s)) ≡ kind_over false (length ts - s)
  edges_denied f ts s plus e closed denied =
      ap (λ x. kind_of (fact_tree c (said plus x (meanings slots) s))) e ∙ ap (λ b. kind_of (fact_tree c (said b (closed_edges ts) (meanings slots) s))) denied
      ∙ edges_left ts s (fit_edges f ts e closed)
