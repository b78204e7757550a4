-- The edges of a graph by the numbers of their ends: one more of them, and their chains.
use Rattle.std.proofs.Common.{◌≡◌, ℕ, ◌+◌, ◌<◌, ◌⊎◌, inl, inr, List, [], ◌∷◌, ◌++◌, Some, length, map, take, slice_get, sym, ◌∙◌, ap, subst, arith}
use Rattle.std.{proofs.lemmas.Option.{slice_get_within, slice_get-get_or, get_or_from_slice_get}, specs.Prelude.{Contains, ◌↔◌}}
use Rattle.pc_common.{specs.{World.{Node, Edge}, Chain.{Leads, Chain, Acyclic}, Generated.{IsListed, HasEnds}}, proofs.Elements.{in_from_contains}}
use Rattle.pc_common.proofs.Places.{at_map, one_item}
use Rattle.pc_ground.specs.{declared.node_key.NodeKey.{NodeKey}, Numbers.{IsNumberOf, AreDistinct}}
use Rattle.graph_text.specs.Graphs.{key_edge}
use Rattle.static_preds.proofs.Walked.{map_take}
use Rattle.graph_check.{specs.{Arcs.{Arcs, Joins, AreLinked}, Orders.{AreNotNumbered, AreArcsOf}}, proofs.Numbers.{numbered_there, number_of, one_more}}

-- the edges of es and the one from a to b
edges_more : (es : List Edge) (a b x y : Node) → IsListed (es ++ (a, b) ∷ []) x y ↔ (IsListed es x y ⊎ ((x ≡ a) × (y ≡ b)))
edges_more es a b x y = (
  (λ h. elim ((one_more es (a, b) (x, y)).0 h) [
    | inl old ↦ inl old
    | inr e ↦ inr (sym (ap (λ p. p.0) e), sym (ap (λ p. p.1) e))
  ]),
  (λ h. (one_more es (a, b) (x, y)).1 (elim h [
    | inl old ↦ inl old
    | inr e ↦ inr (ap (λ n. (n, b)) (sym e.0) ∙ ap (λ n. (x, n)) (sym e.1))
  ])),
)

-- edges join the nodes wherever the nodes are
pub ends_over : (ns nodes : List Node) (es : List Edge) → ((a : Node) → Contains ns a → Contains nodes a) → HasEnds ns es → HasEnds nodes es
ends_over ns nodes es within h = λ a b has. (within a (h a b has).0, within b (h a b has).1)

no_arc : (v : Arcs) → v.arcs ≡ [] → (i j : ℕ) → Joins v i j → ⊥
no_arc v none i j (e, x, at, is_from, is_to) = empty (sym (ap (λ xs. slice_get xs e) none) ∙ at)
  where
    empty : slice_get [] e ≡ Some x → ⊥
    empty at = cc

-- no edges
pub no_arcs : (nodes : List Node) (v : Arcs) → AreDistinct nodes → AreLinked v → length v.heads ≡ length nodes → v.arcs ≡ [] → AreArcsOf nodes [] v
no_arcs nodes v once linked sized none = record {
  distinct = once;
  linked = linked;
  sized = sized;
  ends = λ a b h. absurd (in_from_contains (a, b) [] h);
  joins = λ i j a b ia jb. ((λ h. absurd (no_arc v none i j h)), (λ h. absurd (in_from_contains (a, b) [] h)));
}

-- one edge more
pub more_arcs : (nodes : List Node) (es : List Edge) (v u : Arcs) (i j : ℕ) (a b : Node) → AreArcsOf nodes es v → AreLinked u → length u.heads ≡ length v.heads
    → IsNumberOf nodes i a → IsNumberOf nodes j b → ((x y : ℕ) → Joins u x y ↔ (Joins v x y ⊎ ((x ≡ i) × (y ≡ j)))) → AreArcsOf nodes (es ++ (a, b) ∷ []) u
more_arcs nodes es v u i j a b s linked sized ia jb more = record {
  distinct = s.distinct;
  linked = linked;
  sized = sized ∙ s.sized;
  ends = λ x y h. elim ((edges_more es a b x y).0 h) [
    | inl old ↦ s.ends x y old
    | inr e ↦ (let P : Node → Type 0 = λ n. Contains nodes n in
        (subst P (sym e.0) (numbered_there nodes i a ia), subst P (sym e.1) (numbered_there nodes j b jb)))
  ];
  joins = λ p q x y px qy. (
    (λ h. (edges_more es a b x y).1 (elim ((more p q).0 h) [
      | inl old ↦ inl ((s.joins p q x y px qy).0 old)
      | inr e ↦ inr (one_item x a (sym px ∙ ap (slice_get nodes) e.0 ∙ ia), one_item y b (sym qy ∙ ap (slice_get nodes) e.1 ∙ jb))
    ])),
    (λ h. (more p q).1 (elim ((edges_more es a b x y).0 h) [
      | inl old ↦ inl ((s.joins p q x y px qy).1 old)
      | inr e ↦ inr (s.distinct p i a (px ∙ ap Some e.0) ia, s.distinct q j b (qy ∙ ap Some e.1) jb)
    ])),
  );
}

pub next_arcs : (nodes : List Node) (keys : List (NodeKey × NodeKey)) (k : ℕ) (e : NodeKey × NodeKey) (u : Arcs) → slice_get keys k ≡ Some e
    → AreArcsOf nodes (map key_edge (take k keys) ++ key_edge e ∷ []) u → AreArcsOf nodes (map key_edge (take (k + 1) keys)) u
next_arcs nodes keys k e u there s = (let P : List Edge → Type 0 = λ es. AreArcsOf nodes es u in subst P (sym (map_take key_edge keys k e there)) s)

-- an edge with an end that has no number
pub no_ends : (nodes : List Node) (keys : List (NodeKey × NodeKey)) (k : ℕ) (e : NodeKey × NodeKey) → slice_get keys k ≡ Some e
    → AreNotNumbered nodes (key_edge e).0 (key_edge e).1 → HasEnds nodes (map key_edge keys) → ⊥
no_ends nodes keys k e there none h =
    let at = at_map key_edge keys k e there in
    let es : List Edge = map key_edge keys in
    let both = h (key_edge e).0 (key_edge e).1 (k, slice_get_within es k (key_edge e) at, get_or_from_slice_get es k (key_edge e) (key_edge e) at) in
    let i = number_of nodes (key_edge e).0 both.0 in
    let j = number_of nodes (key_edge e).1 both.1 in
    none i.0 j.0 i.1 j.1

module _ (nodes : List Node) (es : List Edge) (v : Arcs) (s : AreArcsOf nodes es v) where
  joins_within : (i j : ℕ) → Joins v i j → (i < length nodes) × (j < length nodes)
  joins_within i j (e, x, at, is_from, is_to) =
      let w = s.linked.within e x at in
      let a = w.0 in
      let b = w.1 in
      let same = s.sized in
      (omega (arith, a, is_from, same), omega (arith, b, is_to, same))

  pub starts_within : (i j : ℕ) → Joins v i j → i < length v.heads
  starts_within i j joins = (let w = (joins_within i j joins).0 in let same = s.sized in omega (arith, w, same))

  -- a number is below the number of heads
  pub number_within : (i : ℕ) (a : Node) → IsNumberOf nodes i a → i < length v.heads
  number_within i a ia = (let low = slice_get_within nodes i a ia in let same = s.sized in omega (arith, low, same))

  node_at : (i : ℕ) → i < length nodes → (a : Node) × IsNumberOf nodes i a
  node_at i low = (let nothing : Node = record { op = 0; core = 0; stage = 0 } in (_, slice_get-get_or nodes i nothing low))

  -- a chain of edges is one of numbers
  pub chain_down : (a b : Node) (i j : ℕ) → IsNumberOf nodes i a → IsNumberOf nodes j b → Chain (IsListed es) a b → Chain (Joins v) i j
  chain_down a b i j ia jb chain = go a i ia chain.0 chain.1
    where
      go : (a : Node) (i : ℕ) → IsNumberOf nodes i a → (via : List Node) → Leads (IsListed es) a via b → Chain (Joins v) i j
      go a i ia [] l = ([], (s.joins i j a b ia jb).1 l)
      go a i ia (x ∷ xs) l =
          let k = number_of nodes x (s.ends a x l.0).1 in
          let rest = go x k.0 k.1 xs l.1 in
          (k.0 ∷ rest.0, ((s.joins i k.0 a x ia k.1).1 l.0, rest.1))

  -- and the other way round
  pub chain_up : (a b : Node) (i j : ℕ) → IsNumberOf nodes i a → IsNumberOf nodes j b → Chain (Joins v) i j → Chain (IsListed es) a b
  chain_up a b i j ia jb chain = go a i ia chain.0 chain.1
    where
      go : (a : Node) (i : ℕ) → IsNumberOf nodes i a → (via : List ℕ) → Leads (Joins v) i via j → Chain (IsListed es) a b
      go a i ia [] l = ([], (s.joins i j a b ia jb).0 l)
      go a i ia (k ∷ ks) l =
          let x = node_at k (joins_within i k l.0).1 in
          let rest = go x.0 k x.1 ks l.1 in
          (x.0 ∷ rest.0, ((s.joins i k a x.0 ia x.1).0 l.0, rest.1))

  pub acyclic_up : Acyclic (IsListed es) → Acyclic (Joins v)
  acyclic_up acyclic i chain = (let a = node_at i (starts chain) in acyclic a.0 (chain_up a.0 a.0 i i a.1 a.1 chain))
    where
      first : (via : List ℕ) → Leads (Joins v) i via i → i < length nodes
      first [] l = (joins_within i i l).0
      first (k ∷ ks) l = (joins_within i k l.0).0

      starts : Chain (Joins v) i i → i < length nodes
      starts c = first c.0 c.1

  pub acyclic_down : Acyclic (Joins v) → Acyclic (IsListed es)
  acyclic_down acyclic a chain = (let i = number_of nodes a (starts chain) in acyclic i.0 (chain_down a a i.0 i.0 i.1 i.1 chain))
    where
      first : (via : List Node) → Leads (IsListed es) a via a → Contains nodes a
      first [] l = (s.ends a a l).0
      first (x ∷ xs) l = (s.ends a x l.0).0

      starts : Chain (IsListed es) a a → Contains nodes a
      starts c = first c.0 c.1
