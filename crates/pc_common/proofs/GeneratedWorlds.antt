-- The world that a graph without a cycle generates, over any things that a test tells apart.
use Rattle.std.{proofs.Common.{◌≡◌, ◌⊎◌, inl, inr, Bool, true, List, [], ◌∷◌, ◌++◌, map, refl, sym, ◌∙◌, ap, subst}, specs.Prelude.{Contains, ◌↔◌}}
use Rattle.std.specs.List.{flat_map, filter}
use Rattle.pc_common.specs.{World.{same_node, World, IsWorld}, Chain.{Leads, Chain, Reach, Acyclic}, Generated.{IsListed, HasEnds, IsGenerated}}
use Rattle.pc_common.proofs.Elements.{In, in_from_contains, contains_from_in, in_front, in_back, in_either, in_map, from_map, in_flat, from_flat, in_filter, from_filter}
use Rattle.pc_common.proofs.{Nodes.{same_node-true, same_node-self}, Chains.{chain_join, chain_with}}

-- a test of equality, and that it is one
pub record Tells {N : Type 0} (same : N → N → Bool) : Type 0 where
  pub is_same : (a b : N) → same a b ≡ true → a ≡ b
  pub self : (a : N) → same a a ≡ true

-- a, and what the pairs lead to it from
sources : {N : Type 0} → (N → N → Bool) → List (N × N) → N → List N
sources same pairs a = a ∷ map (λ e. e.0) (filter (λ e. same e.1 a) pairs)

-- b, and what the pairs lead to from it
targets : {N : Type 0} → (N → N → Bool) → List (N × N) → N → List N
targets same pairs b = b ∷ map (λ e. e.1) (filter (λ e. same e.0 b) pairs)

-- all pairs of one of xs and one of ys
pairs_of : {N : Type 0} → List N → List N → List (N × N)
pairs_of xs ys = flat_map (λ x. map (λ y. (x, y)) ys) xs

-- all pairs that a chain of the edges joins
closure : {N : Type 0} → (N → N → Bool) → List (N × N) → List (N × N)
closure same [] = []
closure same (e ∷ es) = closure same es ++ pairs_of (sources same (closure same es) e.0) (targets same (closure same es) e.1)

-- the listed edges of e ∷ es are those of es, and e
listed_with : {N : Type 0} (e : N × N) (es : List (N × N)) (x y : N) → IsListed (e ∷ es) x y ↔ (IsListed es x y ⊎ ((x ≡ e.0) × (y ≡ e.1)))
listed_with {N} e es x y = ((λ h. from (in_from_contains (x, y) (e ∷ es) h)), (λ h. contains_from_in (x, y) (e ∷ es) (to h)))
  where
    from : In (x, y) (e ∷ es) → IsListed es x y ⊎ ((x ≡ e.0) × (y ≡ e.1))
    from (inl h) = inr (sym (ap (λ p. p.0) h), sym (ap (λ p. p.1) h))
    from (inr i) = inl (contains_from_in (x, y) es i)

    to : IsListed es x y ⊎ ((x ≡ e.0) × (y ≡ e.1)) → In (x, y) (e ∷ es)
    to (inl h) = inr (in_from_contains (x, y) es h)
    to (inr h) = inl (ap (λ n. (n, e.1)) (sym h.0) ∙ ap (λ n. (x, n)) (sym h.1))

pairs_are : {N : Type 0} (xs ys : List N) (x y : N) → In (x, y) (pairs_of xs ys) ↔ (In x xs × In y ys)
unfolding pairs_of
pairs_are {N} xs ys x y = (
  (λ i.
      let r = from_flat (λ a. map (λ b. (a, b)) ys) (x, y) xs i in
      let s = from_map (λ b. (r.0, b)) (x, y) ys r.2 in
      let P : List N → N → Type 0 = λ ns n. In n ns in
      (subst (P xs) (ap (λ p. p.0) s.2) r.1, subst (P ys) (ap (λ p. p.1) s.2) s.1)),
  (λ h. in_flat (λ a. map (λ b. (a, b)) ys) x (x, y) xs h.0 (in_map (λ b. (x, b)) y ys h.1)),
)

source_is : {N : Type 0} (same : N → N → Bool) → Tells same → (pairs : List (N × N)) (a x : N)
    → In x (sources same pairs a) ↔ ((x ≡ a) ⊎ In (x, a) pairs)
unfolding sources
source_is {N} same tells pairs a x = (from, to)
  where
    from : In x (a ∷ map (λ e. e.0) (filter (λ e. same e.1 a) pairs)) → (x ≡ a) ⊎ In (x, a) pairs
    from (inl h) = inl (sym h)
    from (inr i) =
        let r = from_map (λ e. e.0) x (filter (λ e. same e.1 a) pairs) i in
        let f = from_filter (λ e. same e.1 a) r.0 pairs r.1 in
        let P : N × N → Type 0 = λ e. In e pairs in
        inr (subst P (ap (λ n. (n, r.0.1)) r.2 ∙ ap (λ n. (x, n)) (tells.is_same r.0.1 a f.1)) f.0)

    to : (x ≡ a) ⊎ In (x, a) pairs → In x (a ∷ map (λ e. e.0) (filter (λ e. same e.1 a) pairs))
    to (inl h) = inl (sym h)
    to (inr i) = inr (in_map (λ e. e.0) (x, a) (filter (λ e. same e.1 a) pairs) (in_filter (λ e. same e.1 a) (x, a) pairs i (tells.self a)))

target_is : {N : Type 0} (same : N → N → Bool) → Tells same → (pairs : List (N × N)) (b y : N)
    → In y (targets same pairs b) ↔ ((b ≡ y) ⊎ In (b, y) pairs)
unfolding targets
target_is {N} same tells pairs b y = (from, to)
  where
    from : In y (b ∷ map (λ e. e.1) (filter (λ e. same e.0 b) pairs)) → (b ≡ y) ⊎ In (b, y) pairs
    from (inl h) = inl h
    from (inr i) =
        let r = from_map (λ e. e.1) y (filter (λ e. same e.0 b) pairs) i in
        let f = from_filter (λ e. same e.0 b) r.0 pairs r.1 in
        let P : N × N → Type 0 = λ e. In e pairs in
        inr (subst P (ap (λ n. (n, r.0.1)) (tells.is_same r.0.0 b f.1) ∙ ap (λ n. (b, n)) r.2) f.0)

    to : (b ≡ y) ⊎ In (b, y) pairs → In y (b ∷ map (λ e. e.1) (filter (λ e. same e.0 b) pairs))
    to (inl h) = inl h
    to (inr i) = inr (in_map (λ e. e.1) (b, y) (filter (λ e. same e.0 b) pairs) (in_filter (λ e. same e.0 b) (b, y) pairs i (tells.self b)))

no_chain : {N : Type 0} (x y : N) → Chain (IsListed []) x y → ⊥
no_chain {N} x y chain = go x chain.0 chain.1
  where
    go : (x : N) (via : List N) → Leads (IsListed []) x via y → ⊥
    go x [] l = in_from_contains (x, y) [] l
    go x (z ∷ zs) l = in_from_contains (x, z) [] l.0

-- where these pairs are those that a chain of the edges joins
IsClosure : {N : Type 0} → List (N × N) → List (N × N) → Type 0
IsClosure {N} pairs es = (x y : N) → In (x, y) pairs ↔ Chain (IsListed es) x y

either_is : {N : Type 0} (pairs es : List (N × N)) → IsClosure pairs es
    → (x y : N) → ((x ≡ y) ⊎ In (x, y) pairs) ↔ Reach (IsListed es) x y
unfolding IsClosure
either_is pairs es is x y = (
  (λ h. elim h [ inl e ↦ inl e | inr i ↦ inr ((is x y).0 i) ]),
  (λ h. elim h [ inl e ↦ inl e | inr c ↦ inr ((is x y).1 c) ]),
)

-- one edge more
closure_more : {N : Type 0} (same : N → N → Bool) → Tells same → (e : N × N) (es pairs : List (N × N)) → IsClosure pairs es
    → IsClosure (pairs ++ pairs_of (sources same pairs e.0) (targets same pairs e.1)) (e ∷ es)
unfolding IsClosure
closure_more {N} same tells e es pairs is x y = ((λ i. chains.1 (from (in_either (x, y) pairs new i))), (λ c. to (chains.0 c)))
  where
    new : List (N × N)
    new = pairs_of (sources same pairs e.0) (targets same pairs e.1)

    news : In (x, y) new ↔ (In x (sources same pairs e.0) × In y (targets same pairs e.1))
    news = pairs_are (sources same pairs e.0) (targets same pairs e.1) x y

    chains : Chain (IsListed (e ∷ es)) x y ↔ (Chain (IsListed es) x y ⊎ (Reach (IsListed es) x e.0 × Reach (IsListed es) e.1 y))
    chains = chain_with (IsListed es) (IsListed (e ∷ es)) e.0 e.1 (listed_with e es) x y

    from : In (x, y) pairs ⊎ In (x, y) new → Chain (IsListed es) x y ⊎ (Reach (IsListed es) x e.0 × Reach (IsListed es) e.1 y)
    from (inl i) = inl ((is x y).0 i)
    from (inr i) = inr (
      (either_is pairs es is x e.0).0 ((source_is same tells pairs e.0 x).0 (news.0 i).0),
      (either_is pairs es is e.1 y).0 ((target_is same tells pairs e.1 y).0 (news.0 i).1),
    )

    to : Chain (IsListed es) x y ⊎ (Reach (IsListed es) x e.0 × Reach (IsListed es) e.1 y) → In (x, y) (pairs ++ new)
    to (inl c) = in_front (x, y) pairs new ((is x y).1 c)
    to (inr over) = in_back (x, y) pairs new (news.1 (
      (source_is same tells pairs e.0 x).1 ((either_is pairs es is x e.0).1 over.0),
      (target_is same tells pairs e.1 y).1 ((either_is pairs es is e.1 y).1 over.1),
    ))

closure_is : {N : Type 0} (same : N → N → Bool) → Tells same → (es : List (N × N)) → IsClosure (closure same es) es
unfolding closure IsClosure
closure_is same tells [] x y = ((λ i. absurd i), (λ c. no_chain x y c))
closure_is same tells (e ∷ es) x y = closure_more same tells e es (closure same es) (closure_is same tells es) x y

first_end : {N : Type 0} (ns : List N) (es : List (N × N)) → HasEnds ns es → (a b : N) → Chain (IsListed es) a b → Contains ns a
first_end {N} ns es ends a b chain = go chain.0 chain.1
  where
    go : (via : List N) → Leads (IsListed es) a via b → Contains ns a
    go [] l = (ends a b l).0
    go (x ∷ xs) l = (ends a x l.0).0

last_end : {N : Type 0} (ns : List N) (es : List (N × N)) → HasEnds ns es → (a b : N) → Chain (IsListed es) a b → Contains ns b
last_end {N} ns es ends a b chain = go a chain.0 chain.1
  where
    go : (a : N) (via : List N) → Leads (IsListed es) a via b → Contains ns b
    go a [] l = (ends a b l).1
    go a (x ∷ xs) l = go x xs l.1

-- the world that the graph generates
generated : {N : Type 0} → (N → N → Bool) → List N → List (N × N) → World N
generated same ns es = record { nodes = ns; order = closure same es }

generated_is : {N : Type 0} (same : N → N → Bool) → Tells same → (ns : List N) (es : List (N × N)) → IsGenerated ns es (generated same ns es)
unfolding generated IsClosure
generated_is same tells ns es = record {
  nodes_are = refl;
  order_is = λ a b. (
    (λ h. (closure_is same tells es a b).0 (in_from_contains (a, b) (closure same es) h)),
    (λ c. contains_from_in (a, b) (closure same es) ((closure_is same tells es a b).1 c)),
  );
}

-- what a graph without a cycle generates is a world
pub generated_world : {N : Type 0} (ns : List N) (es : List (N × N)) (w : World N) → HasEnds ns es → Acyclic (IsListed es)
    → IsGenerated ns es w → IsWorld w
generated_world {N} ns es w ends acyclic g = record {
  ends = λ a b h.
      let P : List N → N → Type 0 = λ xs x. Contains xs x in
      let chain = (g.order_is a b).0 h in
      (subst (λ xs. P xs a) (sym g.nodes_are) (first_end ns es ends a b chain), subst (λ xs. P xs b) (sym g.nodes_are) (last_end ns es ends a b chain));
  irreflexive = λ a h. acyclic a ((g.order_is a a).0 h);
  transitive = λ a b c h k. (g.order_is a c).1 (chain_join (IsListed es) a b c ((g.order_is a b).0 h) ((g.order_is b c).0 k));
}

-- a graph without a cycle generates a world
pub generates : {N : Type 0} (same : N → N → Bool) → Tells same → (ns : List N) (es : List (N × N)) → HasEnds ns es → Acyclic (IsListed es)
    → (w : World N) × IsGenerated ns es w × IsWorld w
generates same tells ns es ends acyclic =
    let g = generated_is same tells ns es in
    (generated same ns es, g, generated_world ns es (generated same ns es) ends acyclic g)

pub node_tells : Tells same_node
node_tells = record { is_same = same_node-true; self = same_node-self }
