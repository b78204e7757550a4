-- The facts of a branch: by its positions, by their literals, and once more are added.
use Rattle.std.proofs.{Common.{◌≡◌, ◌⊎◌, inl, inr, List, [], ◌∷◌, ◌++◌, Option, Some, None, length, take, refl, sym, ◌∙◌, ap, subst}, Math.Seq.{take-length}}
use Rattle.std.{proofs.lemmas.Grind.{flat_map-append}, specs.Prelude.{Contains, ◌↔◌}}
use Rattle.pc_common.{specs.World.{Node}, proofs.Elements.{In, in_from_contains, contains_from_in, in_front, in_back, in_either, in_flat, from_flat}}
use Rattle.pc_ground.specs.declared.literal.Literal.{Literal, TheVariants.{Node as a_node, Edge as an_edge, NoNode as not_node, NoEdge as not_edge}}
use Rattle.pc_ground.specs.declared.{node_key.NodeKey.{NodeKey}, row.RowKind.{RowKind, TheVariants.{Lit}}}
use Rattle.pc_ground.specs.{Keys.{key_node, literal_node, renamed_kind}, Tree.{Tree, leaf, either}}
use Rattle.pc_ground.specs.{Literals.{IsPresent, as_node, as_start, as_end}, Refutes.{Signed, Branch, part_at, literal_of, literals_of}}
use Rattle.refutation.specs.BranchFacts.{PlainBranchFact, at_position, edge, no_edge, no_node, present, facts_of_literal}
use Rattle.tree_check.specs.Facts.{facts_of_part, facts_at, facts_of_kind, facts_on, HasFacts, HasAdded}

no_place : (l : Literal Node) (p : Signed) → In (at_position p) (facts_of_literal l) → ⊥
no_place (an_edge a b) p (inl e) = cc
no_place (an_edge a b) p (inr (inl e)) = cc
no_place (an_edge a b) p (inr (inr (inl e))) = cc
no_place (an_edge a b) p (inr (inr (inr i))) = i
no_place _ p i = elim i [ inl e ↦ cc | inr none ↦ none ]

-- that a position is asserted is known of that position alone
place_at : (o : Option (Tree Node)) (p q : Signed) → In (at_position p) (facts_of_part o q) → q ≡ p
place_at None p q i = absurd i
place_at (Some (leaf l)) p q i = absurd (no_place l p i)
place_at _ p q i = elim i [ inl e ↦ cc | inr none ↦ absurd none ]

-- what the literal of a position says is known of it
literal_facts : (o : Option (Tree Node)) (q : Signed) (l : Literal Node) (k : PlainBranchFact) → In l (literal_of o) → In k (facts_of_literal l)
    → In k (facts_of_part o q)
literal_facts (Some (leaf m)) q l k (inl e) j = (let P : Literal Node → Type 0 = λ x. In k (facts_of_literal x) in subst P (sym e) j)
literal_facts (Some (leaf m)) q l k (inr i) j = absurd i
literal_facts _ q l k i j = absurd i

-- and what else is known of it than that it is asserted, its literal says
facts_literal : (o : Option (Tree Node)) (q : Signed) (k : PlainBranchFact) → ((p : Signed) → at_position p ≡ k → ⊥) → In k (facts_of_part o q)
    → (l : Literal Node) × In l (literal_of o) × In k (facts_of_literal l)
facts_literal None q k none i = absurd i
facts_literal (Some (leaf l)) q k none i = (l, inl refl, i)
facts_literal _ q k none i = elim i [ inl e ↦ absurd (none q e) | inr nowhere ↦ absurd nowhere ]

-- an Or of the branch is known
or_in : (t : Tree Node) (ps : Branch) (p : Signed) (a b : Tree Node) → part_at t p ≡ Some (either a b) → In p ps → In (at_position p) (facts_on t ps)
or_in t ps p a b at i =
    let P : Option (Tree Node) → Type 0 = λ o. In (at_position p) (facts_of_part o p) in
    in_flat (facts_at t) p (at_position p) ps i (subst P (sym at) (inl refl))

place_from : (t : Tree Node) (ps : Branch) (p : Signed) → In (at_position p) (facts_on t ps) → In p ps
place_from t ps p i =
    let at = from_flat (facts_at t) (at_position p) ps i in
    let P : Signed → Type 0 = λ x. In x ps in
    subst P (place_at (part_at t at.0) p at.0 at.2) at.1

-- what a literal of the branch says is known
facts_from : (t : Tree Node) (ps : Branch) (l : Literal Node) (k : PlainBranchFact) → Contains (literals_of t ps) l → In k (facts_of_literal l)
    → Contains (facts_on t ps) k
facts_from t ps l k has j =
    let at = from_flat (λ p. literal_of (part_at t p)) l ps (in_from_contains l (literals_of t ps) has) in
    contains_from_in k (facts_on t ps) (in_flat (facts_at t) at.0 k ps at.1 (literal_facts (part_at t at.0) at.0 l k at.2 j))

-- and what else is known than which positions are asserted, a literal says
literal_from : (t : Tree Node) (ps : Branch) (k : PlainBranchFact) → ((p : Signed) → at_position p ≡ k → ⊥) → Contains (facts_on t ps) k
    → (l : Literal Node) × Contains (literals_of t ps) l × In k (facts_of_literal l)
literal_from t ps k none has =
    let at = from_flat (facts_at t) k ps (in_from_contains k (facts_on t ps) has) in
    let l = facts_literal (part_at t at.0) at.0 k none at.2 in
    (l.0, contains_from_in l.0 (literals_of t ps) (in_flat (λ p. literal_of (part_at t p)) at.0 l.0 ps at.1 l.1), l.2)

edge_of : (l : Literal Node) (a b : Node) → In (edge a b) (facts_of_literal l) → l ≡ an_edge a b
edge_of (an_edge c d) a b (inl e) = (let x : c ≡ a = cc in let y : d ≡ b = cc in ap (λ n. an_edge n d) x ∙ ap (an_edge a) y)
edge_of (an_edge c d) a b (inr (inl e)) = cc
edge_of (an_edge c d) a b (inr (inr (inl e))) = cc
edge_of (an_edge c d) a b (inr (inr (inr i))) = absurd i
edge_of _ a b i = elim i [ inl e ↦ cc | inr none ↦ absurd none ]

no_edge_of : (l : Literal Node) (a b : Node) → In (no_edge a b) (facts_of_literal l) → l ≡ not_edge a b
no_edge_of (an_edge c d) a b (inl e) = cc
no_edge_of (an_edge c d) a b (inr (inl e)) = cc
no_edge_of (an_edge c d) a b (inr (inr (inl e))) = cc
no_edge_of (an_edge c d) a b (inr (inr (inr i))) = absurd i
no_edge_of (not_edge c d) a b (inl e) = (let x : c ≡ a = cc in let y : d ≡ b = cc in ap (λ n. not_edge n d) x ∙ ap (not_edge a) y)
no_edge_of (not_edge c d) a b (inr i) = absurd i
no_edge_of _ a b i = elim i [ inl e ↦ cc | inr none ↦ absurd none ]

no_node_of : (l : Literal Node) (a : Node) → In (no_node a) (facts_of_literal l) → l ≡ not_node a
no_node_of (an_edge c d) a (inl e) = cc
no_node_of (an_edge c d) a (inr (inl e)) = cc
no_node_of (an_edge c d) a (inr (inr (inl e))) = cc
no_node_of (an_edge c d) a (inr (inr (inr i))) = absurd i
no_node_of (not_node c) a (inl e) = (let x : c ≡ a = cc in ap not_node x)
no_node_of (not_node c) a (inr i) = absurd i
no_node_of _ a i = elim i [ inl e ↦ cc | inr none ↦ absurd none ]

module _ (ls : List (Literal Node)) (a : Node) where
  present_of : (l : Literal Node) → Contains ls l → In (present a) (facts_of_literal l) → IsPresent ls a
  present_of (a_node c) has (inl e) = (let x : c ≡ a = cc in let P : Node → Type 0 = λ n. Contains ls (a_node n) in as_node (subst P x has))
  present_of (a_node c) has (inr i) = absurd i
  present_of (an_edge c d) has (inl e) = cc
  present_of (an_edge c d) has (inr (inl e)) = (let x : c ≡ a = cc in let P : Node → Type 0 = λ n. Contains ls (an_edge n d) in as_start d (subst P x has))
  present_of (an_edge c d) has (inr (inr (inl e))) = (let x : d ≡ a = cc in let P : Node → Type 0 = λ n. Contains ls (an_edge c n) in as_end c (subst P x has))
  present_of (an_edge c d) has (inr (inr (inr i))) = absurd i
  present_of (not_node c) has (inl e) = cc
  present_of (not_node c) has (inr i) = absurd i
  present_of (not_edge c d) has (inl e) = cc
  present_of (not_edge c d) has (inr i) = absurd i

-- what the facts of a branch say of its positions and literals
module _ (t : Tree Node) (facts : List PlainBranchFact) (ps : Branch) (has : HasFacts t facts ps) where
  pub position_of_fact : (p : Signed) → Contains facts (at_position p) → Contains ps p
  position_of_fact p h = contains_from_in p ps (place_from t ps p (in_from_contains (at_position p) (facts_on t ps) ((has (at_position p)).0 h)))

  pub fact_of_or : (p : Signed) (a b : Tree Node) → part_at t p ≡ Some (either a b) → Contains ps p → Contains facts (at_position p)
  fact_of_or p a b at h = (has (at_position p)).1 (contains_from_in (at_position p) (facts_on t ps) (or_in t ps p a b at (in_from_contains p ps h)))

  literal_is : (l m : Literal Node) → l ≡ m → Contains (literals_of t ps) l → Contains (literals_of t ps) m
  literal_is l m e h = (let P : Literal Node → Type 0 = λ x. Contains (literals_of t ps) x in subst P e h)

  pub edge_literal : (a b : Node) → Contains facts (edge a b) ↔ Contains (literals_of t ps) (an_edge a b)
  edge_literal a b = (
    λ h. let l = literal_from t ps (edge a b) (λ p e. cc) ((has (edge a b)).0 h) in literal_is l.0 (an_edge a b) (edge_of l.0 a b l.2) l.1,
    λ h. (has (edge a b)).1 (facts_from t ps (an_edge a b) (edge a b) h (inl refl)),
  )

  pub no_edge_literal : (a b : Node) → Contains facts (no_edge a b) ↔ Contains (literals_of t ps) (not_edge a b)
  no_edge_literal a b = (
    λ h. let l = literal_from t ps (no_edge a b) (λ p e. cc) ((has (no_edge a b)).0 h) in literal_is l.0 (not_edge a b) (no_edge_of l.0 a b l.2) l.1,
    λ h. (has (no_edge a b)).1 (facts_from t ps (not_edge a b) (no_edge a b) h (inl refl)),
  )

  pub no_node_literal : (a : Node) → Contains facts (no_node a) ↔ Contains (literals_of t ps) (not_node a)
  no_node_literal a = (
    λ h. let l = literal_from t ps (no_node a) (λ p e. cc) ((has (no_node a)).0 h) in literal_is l.0 (not_node a) (no_node_of l.0 a l.2) l.1,
    λ h. (has (no_node a)).1 (facts_from t ps (not_node a) (no_node a) h (inl refl)),
  )

  pub present_literal : (a : Node) → Contains facts (present a) ↔ IsPresent (literals_of t ps) a
  present_literal a = (
    λ h. let l = literal_from t ps (present a) (λ p e. cc) ((has (present a)).0 h) in present_of (literals_of t ps) a l.0 l.1 l.2,
    λ h. (has (present a)).1 (by_cases h),
  )
    where
      by_cases : IsPresent (literals_of t ps) a → Contains (facts_on t ps) (present a)
      by_cases (as_node h) = facts_from t ps (a_node a) (present a) h (inl refl)
      by_cases (as_start b h) = facts_from t ps (an_edge a b) (present a) h (inr (inl refl))
      by_cases (as_end b h) = facts_from t ps (an_edge b a) (present a) h (inr (inr (inl refl)))

contains_either : {X : Type 0} (xs ys : List X) (x : X) → Contains (xs ++ ys) x ↔ (Contains xs x ⊎ Contains ys x)
contains_either xs ys x = (
  λ has. elim (in_either x xs ys (in_from_contains x (xs ++ ys) has)) [ inl i ↦ inl (contains_from_in x xs i) | inr i ↦ inr (contains_from_in x ys i) ],
  λ either. contains_from_in x (xs ++ ys) (elim either [
    | inl has ↦ in_front x xs ys (in_from_contains x xs has)
    | inr has ↦ in_back x xs ys (in_from_contains x ys has)
  ]),
)

take_through : {X : Type 0} (xs ys zs : List X) → take (length xs) ys ≡ xs → take (length ys) zs ≡ ys → take (length xs) zs ≡ xs
take_through [] ys zs e f = refl
take_through (x ∷ xs) [] zs e f = cc
take_through (x ∷ xs) (y ∷ ys) [] e f = cc
take_through (x ∷ xs) (y ∷ ys) (z ∷ zs) e f =
    let first : y ≡ x = cc in
    let second : z ≡ y = cc in
    let rest : take (length xs) ys ≡ xs = cc in
    let more : take (length ys) zs ≡ ys = cc in
    ap (λ w. w ∷ take (length xs) zs) (second ∙ first) ∙ ap (λ ws. x ∷ ws) (take_through xs ys zs rest more)

-- nothing added
pub added_none : (xs : List PlainBranchFact) → HasAdded xs [] xs
added_none xs =
    record { same_first = take-length xs; members = λ k. (λ h. inl h, λ either. elim either [ inl h ↦ h | inr h ↦ absurd (in_from_contains k [] h) ]) }

-- one fact added
pub added_one : (xs ys : List PlainBranchFact) (x : PlainBranchFact) → take (length xs) ys ≡ xs → ((k : PlainBranchFact) → Contains ys k ↔ (Contains xs k ⊎ (k ≡ x)))
    → HasAdded xs (x ∷ []) ys
added_one xs ys x same_first h = record {
  same_first = same_first;
  members = λ k. (
    λ i. elim ((h k).0 i) [ inl j ↦ inl j | inr e ↦ inr (contains_from_in k (x ∷ []) (inl (sym e))) ],
    λ either. (h k).1 (elim either [ inl j ↦ inl j | inr j ↦ inr (only k (in_from_contains k (x ∷ []) j)) ]),
  );
}
  where
    only : (k : PlainBranchFact) → In k (x ∷ []) → k ≡ x
    only k (inl e) = sym e
    only k (inr i) = absurd i

-- some added, and then some more
pub added_then : {xs ys zs more last : List PlainBranchFact} → HasAdded xs more ys → HasAdded ys last zs → HasAdded xs (more ++ last) zs
added_then {xs} {ys} {zs} {more} {last} f g = record {
  same_first = take_through xs ys zs f.same_first g.same_first;
  members = λ k. (
    λ h. elim ((g.members k).0 h) [
      | inl i ↦ elim ((f.members k).0 i) [ inl j ↦ inl j | inr j ↦ inr ((contains_either more last k).1 (inl j)) ]
      | inr i ↦ inr ((contains_either more last k).1 (inr i))
    ],
    λ either. elim either [
      | inl i ↦ (g.members k).1 (inl ((f.members k).1 (inl i)))
      | inr i ↦ elim ((contains_either more last k).0 i) [
        | inl j ↦ (g.members k).1 (inl ((f.members k).1 (inr j)))
        | inr j ↦ (g.members k).1 (inr j)
      ]
    ],
  );
}

facts_more : (t : Tree Node) (ps qs : Branch) (k : PlainBranchFact) → Contains (facts_on t (ps ++ qs)) k ↔ (Contains (facts_on t ps) k ⊎ Contains (facts_on t qs) k)
facts_more t ps qs k = rw (flat_map-append (facts_at t) ps qs) (contains_either (facts_on t ps) (facts_on t qs) k)

-- the facts of a branch with further positions
pub has_more : (t : Tree Node) (facts new : List PlainBranchFact) (ps qs : Branch) → HasFacts t facts ps → HasAdded facts (facts_on t qs) new
    → HasFacts t new (ps ++ qs)
has_more t facts new ps qs has add = λ k. (
  λ h. (facts_more t ps qs k).1 (elim ((add.members k).0 h) [ inl i ↦ inl ((has k).0 i) | inr i ↦ inr i ]),
  λ h. (add.members k).1 (elim ((facts_more t ps qs k).0 h) [ inl i ↦ inl ((has k).1 i) | inr i ↦ inr i ]),
)

-- positions that are there already say nothing more
pub has_again : (t : Tree Node) (facts : List PlainBranchFact) (ps qs : Branch) → HasFacts t facts ps → ((q : Signed) → In q qs → In q ps)
    → HasFacts t facts (ps ++ qs)
has_again t facts ps qs has there = λ k. (
  λ h. (facts_more t ps qs k).1 (inl ((has k).0 h)),
  λ h. (has k).1 (elim ((facts_more t ps qs k).0 h) [
    | inl i ↦ i
    | inr i ↦ (let at = from_flat (facts_at t) k qs (in_from_contains k (facts_on t qs) i) in
        contains_from_in k (facts_on t ps) (in_flat (facts_at t) at.0 k ps (there at.0 at.1) at.2))
  ]),
)

pub facts_none : (t : Tree Node) → HasFacts t [] []
facts_none t k = (λ h. h, λ h. h)

-- what a row says, by its kind
pub facts_of_lit : (p : Signed) (k : RowKind NodeKey) (l : Literal NodeKey) → k ≡ Lit l
    → facts_of_literal (literal_node l) ≡ facts_of_kind p (renamed_kind key_node k)
facts_of_lit p k l e = ap (λ x. facts_of_kind p (renamed_kind key_node x)) (sym e)

pub fact_of_position : (p : Signed) (k : RowKind NodeKey) → ((l : Literal NodeKey) → k ≡ Lit l → ⊥)
    → at_position p ∷ [] ≡ facts_of_kind p (renamed_kind key_node k)
fact_of_position p (Lit l) none = absurd (none l refl)
fact_of_position p _ none = refl
