-- What one literal more makes of a list.
use Rattle.std.proofs.Common.{◌≡◌, ℕ, ◌⊎◌, inl, inr, List, [], ◌∷◌, ◌++◌, sym, subst}
use Rattle.std.{proofs.lemmas.List.Elements.{Contains-append_left, Contains-push, Contains-push_cases}, specs.Prelude.{Contains}}
use Rattle.pc_common.{specs.Chain.{Chain, Reach}, proofs.Chains.{chain_more, chain_with, chain_reach, IsWithStep}}
use Rattle.pc_ground.specs.declared.literal.Literal.{Literal, TheVariants.{Node, Edge, NoNode, NoEdge}}
use Rattle.pc_ground.specs.Literals.{Joins, IsPresent, IsConsistent, as_node, as_start, as_end}

-- the list with one literal more
abbrev pub more : List (Literal ℕ) → Literal ℕ → List (Literal ℕ)
more ls l = ls ++ l ∷ []

pub older : (ls : List (Literal ℕ)) (l x : Literal ℕ) → Contains ls x → Contains (more ls l) x
older ls l x h = Contains-append_left ls (l ∷ []) x h

pub newest : (ls : List (Literal ℕ)) (l : Literal ℕ) → Contains (more ls l) l
newest ls l = Contains-push ls l

pub which : (ls : List (Literal ℕ)) (l x : Literal ℕ) → Contains (more ls l) x → Contains ls x ⊎ (l ≡ x)
which ls l x h = Contains-push_cases ls l x h

pub joins_older : (ls : List (Literal ℕ)) (l : Literal ℕ) (a b : ℕ) → Joins ls a b → Joins (more ls l) a b
joins_older ls l a b h = older ls l (Edge a b) h

pub chain_older : (ls : List (Literal ℕ)) (l : Literal ℕ) (a b : ℕ) → Chain (Joins ls) a b → Chain (Joins (more ls l)) a b
chain_older ls l a b c = chain_more (Joins ls) (Joins (more ls l)) (joins_older ls l) a b c

pub present_older : (ls : List (Literal ℕ)) (l : Literal ℕ) (a : ℕ) → IsPresent ls a → IsPresent (more ls l) a
present_older ls l a (as_node h) = as_node (older ls l (Node a) h)
present_older ls l a (as_start b h) = as_start b (older ls l (Edge a b) h)
present_older ls l a (as_end b h) = as_end b (older ls l (Edge b a) h)

-- a literal that is no edge joins nothing
abbrev pub IsNoEdge : Literal ℕ → Type 0
IsNoEdge l = (a b : ℕ) → l ≡ Edge a b → ⊥

pub node_is_none : (p : ℕ) → IsNoEdge (Node p)
node_is_none p a b e = cc

pub no_node_is_none : (p : ℕ) → IsNoEdge (NoNode p)
no_node_is_none p a b e = cc

pub no_edge_is_none : (p q : ℕ) → IsNoEdge (NoEdge p q)
no_edge_is_none p q a b e = cc

pub chain_newer : (ls : List (Literal ℕ)) (l : Literal ℕ) → IsNoEdge l → (a b : ℕ) → Chain (Joins (more ls l)) a b → Chain (Joins ls) a b
chain_newer ls l none a b c =
    chain_more (Joins (more ls l)) (Joins ls) (λ x y h. elim (which ls l (Edge x y) h) [ inl old ↦ old | inr new ↦ absurd (none x y new) ]) a b c

joins_with : (ls : List (Literal ℕ)) (p q : ℕ) → IsWithStep (Joins ls) (Joins (more ls (Edge p q))) p q
joins_with ls p q a b = (
  (λ h. elim (which ls (Edge p q) (Edge a b) h) [ inl old ↦ inl old | inr new ↦ inr (cc, cc) ]),
  (λ h. elim h [
    | inl old ↦ joins_older ls (Edge p q) a b old
    | inr new ↦
        let same : Edge p q ≡ Edge a b = (let first = new.0 in let second = new.1 in cc) in
        let P : Literal ℕ → Type 0 = Contains (more ls (Edge p q)) in subst P same (newest ls (Edge p q))
  ]),
)

-- a chain with the edge from p to q
pub chain_edge : (ls : List (Literal ℕ)) (p q a b : ℕ) → Chain (Joins (more ls (Edge p q))) a b
    → Chain (Joins ls) a b ⊎ (Reach (Joins ls) a p × Reach (Joins ls) q b)
chain_edge ls p q a b c = (chain_with (Joins ls) (Joins (more ls (Edge p q))) p q (joins_with ls p q) a b).0 c

pub edge_chain : (ls : List (Literal ℕ)) (p q a b : ℕ) → Reach (Joins ls) a p → Reach (Joins ls) q b → Chain (Joins (more ls (Edge p q))) a b
edge_chain ls p q a b r s = (chain_with (Joins ls) (Joins (more ls (Edge p q))) p q (joins_with ls p q) a b).1 (inr (r, s))

-- what is reached from what is reached
reach_join : (ls : List (Literal ℕ)) (a b c : ℕ) → Reach (Joins ls) a b → Reach (Joins ls) b c → Reach (Joins ls) a c
reach_join ls a b c (inl e) s = let P : ℕ → Type 0 = λ x. Reach (Joins ls) x c in subst P (sym e) s
reach_join ls a b c (inr chain) s = inr (chain_reach (Joins ls) a b c chain s)

-- what a literal makes present
abbrev pub Brings : Literal ℕ → ℕ → Type 0
Brings l a = (l ≡ Node a) ⊎ (((b : ℕ) × (l ≡ Edge a b)) ⊎ ((b : ℕ) × (l ≡ Edge b a)))

pub present_which : (ls : List (Literal ℕ)) (l : Literal ℕ) (a : ℕ) → IsPresent (more ls l) a → IsPresent ls a ⊎ Brings l a
present_which ls l a (as_node h) = elim (which ls l (Node a) h) [ inl old ↦ inl (as_node old) | inr new ↦ inr (inl new) ]
present_which ls l a (as_start b h) = elim (which ls l (Edge a b) h) [ inl old ↦ inl (as_start b old) | inr new ↦ inr (inr (inl (b, new))) ]
present_which ls l a (as_end b h) = elim (which ls l (Edge b a) h) [ inl old ↦ inl (as_end b old) | inr new ↦ inr (inr (inr (b, new))) ]

-- a node that a node literal or an edge brings is its node, or one of its ends
pub node_brings : (p a : ℕ) → Brings (Node p) a → a ≡ p
node_brings p a (inl e) = cc
node_brings p a (inr (inl s)) = let e = s.1 in cc
node_brings p a (inr (inr s)) = let e = s.1 in cc

pub edge_brings : (p q a : ℕ) → Brings (Edge p q) a → (a ≡ p) ⊎ (a ≡ q)
edge_brings p q a (inl e) = cc
edge_brings p q a (inr (inl s)) = let e = s.1 in inl cc
edge_brings p q a (inr (inr s)) = let e = s.1 in inr cc

pub no_node_brings : (p a : ℕ) → Brings (NoNode p) a → ⊥
no_node_brings p a (inl e) = cc
no_node_brings p a (inr (inl s)) = let e = s.1 in cc
no_node_brings p a (inr (inr s)) = let e = s.1 in cc

pub no_edge_brings : (p q a : ℕ) → Brings (NoEdge p q) a → ⊥
no_edge_brings p q a (inl e) = cc
no_edge_brings p q a (inr (inl s)) = let e = s.1 in cc
no_edge_brings p q a (inr (inr s)) = let e = s.1 in cc

pub consistent_node : (ls : List (Literal ℕ)) (p : ℕ) → IsConsistent ls → (Contains ls (NoNode p) → ⊥) → IsConsistent (more ls (Node p))
consistent_node ls p c free =
    let l : Literal ℕ = Node p in
    record {
      acyclic = λ a h. c.acyclic a (chain_newer ls l (node_is_none p) a a h);
      apart = λ a b d h. elim (which ls l (NoEdge a b) d) [ inl old ↦ c.apart a b old (chain_newer ls l (node_is_none p) a b h) | inr new ↦ cc ];
      missing = λ a d h. elim (which ls l (NoNode a) d) [
        | inl old ↦ elim (present_which ls l a h) [
          | inl before ↦ c.missing a old before
          | inr brought ↦ free (let P : ℕ → Type 0 = λ x. Contains ls (NoNode x) in subst P (node_brings p a brought) old)
        ]
        | inr new ↦ cc
      ];
    }

pub consistent_no_node : (ls : List (Literal ℕ)) (p : ℕ) → IsConsistent ls → (IsPresent ls p → ⊥) → IsConsistent (more ls (NoNode p))
consistent_no_node ls p c free =
    let l : Literal ℕ = NoNode p in
    record {
      acyclic = λ a h. c.acyclic a (chain_newer ls l (no_node_is_none p) a a h);
      apart = λ a b d h. elim (which ls l (NoEdge a b) d) [ inl old ↦ c.apart a b old (chain_newer ls l (no_node_is_none p) a b h) | inr new ↦ cc ];
      missing = λ a d h. elim (present_which ls l a h) [
        | inl before ↦ elim (which ls l (NoNode a) d) [
          | inl old ↦ c.missing a old before
          | inr new ↦ (let same : a ≡ p = cc in free (let P : ℕ → Type 0 = λ x. IsPresent ls x in subst P same before))
        ]
        | inr brought ↦ no_node_brings p a brought
      ];
    }

pub consistent_no_edge : (ls : List (Literal ℕ)) (p q : ℕ) → IsConsistent ls → (Chain (Joins ls) p q → ⊥) → IsConsistent (more ls (NoEdge p q))
consistent_no_edge ls p q c free =
    let l : Literal ℕ = NoEdge p q in
    record {
      acyclic = λ a h. c.acyclic a (chain_newer ls l (no_edge_is_none p q) a a h);
      apart = λ a b d h. let before = chain_newer ls l (no_edge_is_none p q) a b h in elim (which ls l (NoEdge a b) d) [
        | inl old ↦ c.apart a b old before
        | inr new ↦
            let first : a ≡ p = cc in
            let second : b ≡ q = cc in
            free (let P : ℕ → Type 0 = λ x. Chain (Joins ls) x q in subst P first (let Q : ℕ → Type 0 = λ y. Chain (Joins ls) a y in subst Q second before))
      ];
      missing = λ a d h. elim (present_which ls l a h) [
        | inl before ↦ elim (which ls l (NoNode a) d) [ inl old ↦ c.missing a old before | inr new ↦ cc ]
        | inr brought ↦ no_edge_brings p q a brought
      ];
    }

pub consistent_edge : (ls : List (Literal ℕ)) (p q : ℕ) → IsConsistent ls
    → (Contains ls (NoNode p) → ⊥) → (Contains ls (NoNode q) → ⊥) → (Reach (Joins ls) q p → ⊥)
    → ((x y : ℕ) → Contains ls (NoEdge x y) → Reach (Joins ls) x p → Reach (Joins ls) q y → ⊥)
    → IsConsistent (more ls (Edge p q))
consistent_edge ls p q c free_p free_q back denied =
    let l : Literal ℕ = Edge p q in
    record {
      acyclic = λ a h. elim (chain_edge ls p q a a h) [ inl before ↦ c.acyclic a before | inr new ↦ back (reach_join ls q a p new.1 new.0) ];
      apart = λ a b d h. elim (which ls l (NoEdge a b) d) [
        | inl old ↦ elim (chain_edge ls p q a b h) [ inl before ↦ c.apart a b old before | inr new ↦ denied a b old new.0 new.1 ]
        | inr new ↦ cc
      ];
      missing = λ a d h. elim (which ls l (NoNode a) d) [
        | inl old ↦ elim (present_which ls l a h) [
          | inl before ↦ c.missing a old before
          | inr brought ↦ (let P : ℕ → Type 0 = λ x. Contains ls (NoNode x) in
              elim (edge_brings p q a brought) [ inl first ↦ free_p (subst P first old) | inr second ↦ free_q (subst P second old) ])
        ]
        | inr new ↦ cc
      ];
    }
