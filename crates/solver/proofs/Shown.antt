-- The graph of a list of literals, node by node and edge by edge.
use Rattle.std.proofs.Common.{◌≡◌, ◌≤◌, ◌<◌, ◌⊎◌, inl, inr, ℕ, ◌+◌, Bool, true, ◌&&◌, List, [], ◌∷◌, ◌++◌, Some, map, take, length, sym, ap, ◌∙◌, arith, eqb, eqb-true}
use Rattle.std.proofs.lemmas.{Bool.{cases_lt}, List.{take_more, take_all, Elements.{All-contains, All-contains_itself, All-weaker, Contains-append_left, Contains-push, Contains-push_cases}}}
use Rattle.std.{proofs.lemmas.Option.{slice_get_within, get_or_from_slice_get}, specs.{Prelude.{Contains, All, ◌↔◌, slice_get}, List.{list_any}}}
use Rattle.indexmap.specs.IndexSet.{insert_key}
use Rattle.pc_common.specs.World.{Node, Edge}
use Rattle.std.proofs.lemmas.Map.Views.{Contains-from_any}
use Rattle.pc_common.proofs.Elements.{in_from_contains, contains_from_in, in_map, from_map}
use Rattle.pc_common.proofs.Bools.{true_or_false, and_first, and_second}
use Rattle.pc_ground.specs.{declared.literal.Literal.{Literal, TheVariants.{Edge as an_edge}}, Literals.{Joins}}
use Rattle.order_graph.specs.Ways.{IsBelow}
use Rattle.solver.specs.{Renamed.{node_at}, Shown.{ArePresent, AreEdges, IsPresentNoted, edge_over}}

pub present_more : (nodes : List Node) (ls : List (Literal ℕ)) (k : ℕ) (old new : List Node) → IsPresentNoted nodes ls k old new → ArePresent nodes ls k old
    → ArePresent nodes ls (k + 1) new
present_more nodes ls k old new (inl (is, e)) are = λ a. (
  (λ h. elim (Contains-push_cases old (node_at nodes k) a (rw e at h)) [
    | inl i ↦ (let r = (are a).0 i in (r.0, omega (arith, r.1), r.2, r.3))
    | inr i ↦ (k, omega arith, is, i)
  ]),
  (λ h. rw e (elim (cases_lt h.0 k) [
    | inl before ↦ Contains-append_left old (node_at nodes k ∷ []) a ((are a).1 (h.0, before, h.2, h.3))
    | inr past ↦
        let same : k ≡ h.0 = omega (arith, h.1, past) in
        rw (← (ap (node_at nodes) same ∙ h.3)) (Contains-push old (node_at nodes k))
  ])),
)
present_more nodes ls k old new (inr (never, e)) are = λ a. (
  (λ h. (let r = (are a).0 (rw e at h) in (r.0, omega (arith, r.1), r.2, r.3))),
  (λ h. elim (cases_lt h.0 k) [
    | inl before ↦ rw e ((are a).1 (h.0, before, h.2, h.3))
    | inr past ↦ (let same : h.0 ≡ k = omega (arith, h.1, past) in absurd (never (rw same at h.2)))
  ]),
)

pub same_pair : (x y : ℕ × ℕ) → (eqb x.0 y.0 && eqb x.1 y.1) ≡ true → x ≡ y
same_pair x y e =
    let first = eqb-true x.0 y.0 (and_first (eqb x.0 y.0) (eqb x.1 y.1) e) in
    let second = eqb-true x.1 y.1 (and_second (eqb x.0 y.0) (eqb x.1 y.1) e) in
    let P : ℕ → ℕ → ℕ × ℕ = λ a b. (a, b) in
    ap (λ a. P a x.1) first ∙ ap (P y.0) second

-- a set with one pair more
pub insert_pair : (eq : ℕ × ℕ → ℕ × ℕ → Bool) → ((x y : ℕ × ℕ) → eq x y ≡ true → x ≡ y) → (ks new : List (ℕ × ℕ)) (x : ℕ × ℕ) → new ≡ insert_key eq ks x
    → (p : ℕ × ℕ) → Contains new p ↔ (Contains ks p ⊎ (x ≡ p))
insert_pair eq law ks new x e p =
    elim (true_or_false (list_any (eq x) ks)) [
      | inl has ↦
          let same : new ≡ ks = rw has at e in (
            (λ h. inl (rw same at h)),
            (λ h. rw same (elim h [ inl k ↦ k | inr k ↦ rw (← k) (Contains-from_any law x ks has) ])),
          )
      | inr not ↦
          let same : new ≡ ks ++ x ∷ [] = rw not at e in (
            (λ h. Contains-push_cases ks x p (rw same at h)),
            (λ h. rw same (elim h [
              | inl k ↦ Contains-append_left ks (x ∷ []) p k
              | inr k ↦ rw (← k) (Contains-push ks x)
            ])),
          )
    ]

pub edge_noted : (eq : ℕ × ℕ → ℕ × ℕ → Bool) → ((x y : ℕ × ℕ) → eq x y ≡ true → x ≡ y) → (ks new : List (ℕ × ℕ)) (l : Literal ℕ) (a b : ℕ) → l ≡ an_edge a b
    → new ≡ insert_key eq ks (a, b) → (j k : ℕ) → Contains new (j, k) ↔ (Contains ks (j, k) ⊎ (l ≡ an_edge j k))
edge_noted eq law ks new l a b is e j k =
    let h = insert_pair eq law ks new (a, b) e (j, k) in
    let P : ℕ → ℕ → ℕ × ℕ = λ x y. (x, y) in
    let from_edge : l ≡ an_edge j k → (a, b) ≡ (j, k) = λ s.
    (let f : an_edge a b ≡ an_edge j k = sym is ∙ s in
    let first : a ≡ j = cc in
    let second : b ≡ k = cc in
    ap (λ x. P x b) first ∙ ap (P j) second) in
    let to_edge : (a, b) ≡ (j, k) → l ≡ an_edge j k = λ s. is ∙ ap (λ x. an_edge x b) (ap (λ p. p.0) s) ∙ ap (an_edge j) (ap (λ p. p.1) s) in (
      (λ c. elim (h.0 c) [ inl x ↦ inl x | inr x ↦ inr (to_edge x) ]),
      (λ c. elim c [ inl x ↦ h.1 (inl x) | inr x ↦ h.1 (inr (from_edge x)) ]),
    )

pub edges_more : (ls : List (Literal ℕ)) (n : ℕ) (l : Literal ℕ) (old new : List (ℕ × ℕ)) → slice_get ls n ≡ Some l
    → ((j k : ℕ) → Contains old (j, k) ↔ Contains (take n ls) (an_edge j k))
    → ((j k : ℕ) → Contains new (j, k) ↔ (Contains old (j, k) ⊎ (l ≡ an_edge j k)))
    → (j k : ℕ) → Contains new (j, k) ↔ Contains (take (n + 1) ls) (an_edge j k)
edges_more ls n l old new at before noted j k =
    let whole : take (n + 1) ls ≡ take n ls ++ l ∷ [] = take_more ls n l (slice_get_within ls n l at)
    ∙ ap (λ x. take n ls ++ x ∷ []) (get_or_from_slice_get ls n l l at) in (
      (λ h. rw whole (elim ((noted j k).0 h) [
        | inl x ↦ Contains-append_left (take n ls) (l ∷ []) (an_edge j k) ((before j k).0 x)
        | inr x ↦ rw (← x) (Contains-push (take n ls) l)
      ])),
      (λ h. (noted j k).1 (elim (Contains-push_cases (take n ls) l (an_edge j k) (rw whole at h)) [
        | inl x ↦ inl ((before j k).1 x)
        | inr x ↦ inr x
      ])),
    )

pub edges_shown : (nodes : List Node) (ls : List (Literal ℕ)) (pairs : List (ℕ × ℕ)) (es : List Edge) → es ≡ map (edge_over nodes) pairs
    → ((j k : ℕ) → Contains pairs (j, k) ↔ Joins ls j k) → AreEdges nodes ls es
edges_shown nodes ls pairs es e are a b =
    let f = edge_over nodes in (
      (λ h.
          let r = from_map f (a, b) pairs (in_from_contains (a, b) (map f pairs) (rw e at h)) in
          (r.0.0, r.0.1, (are r.0.0 r.0.1).0 (contains_from_in r.0 pairs r.1), ap (λ p. p.0) r.2, ap (λ p. p.1) r.2)),
      (λ h. rw (← h.4, ← h.3, e) (contains_from_in (f (h.0, h.1)) (map f pairs)
          (in_map f (h.0, h.1) pairs (in_from_contains (h.0, h.1) pairs ((are h.0 h.1).1 h.2))))),
    )

pub pairs_from : (n : ℕ) (ls : List (Literal ℕ)) (pairs : List (ℕ × ℕ)) → All (IsBelow n) ls → ((j k : ℕ) → Contains pairs (j, k) ↔ Joins ls j k)
    → All (λ (p : ℕ × ℕ). p.0 < n) pairs × All (λ (p : ℕ × ℕ). p.1 < n) pairs
pairs_from n ls pairs all are =
    let ends : (p : ℕ × ℕ) → Contains pairs p → (p.0 < n) × (p.1 < n) = λ p i. All-contains (IsBelow n) ls (an_edge p.0 p.1) all ((are p.0 p.1).0 i) in (
      All-weaker (Contains pairs) (λ p. p.0 < n) (λ p i. (ends p i).0) pairs (All-contains_itself pairs),
      All-weaker (Contains pairs) (λ p. p.1 < n) (λ p i. (ends p i).1) pairs (All-contains_itself pairs),
    )

pub edges_all : (ls : List (Literal ℕ)) (pairs : List (ℕ × ℕ)) (n : ℕ) → length ls ≤ n
    → ((j k : ℕ) → Contains pairs (j, k) ↔ Contains (take n ls) (an_edge j k))
    → (j k : ℕ) → Contains pairs (j, k) ↔ Joins ls j k
edges_all ls pairs n past are j k =
    rw (take_all n ls past) at (are j k)
