-- A leaf closes a branch where the branch's facts say so.
use Rattle.std.{proofs.Common.{◌≡◌, ◌⊎◌, inl, inr, List, [], ◌∷◌, ◌++◌, refl, sym, ◌∙◌, ap, subst}, specs.Prelude.{Contains, ◌↔◌}}
use Rattle.pc_common.specs.{World.{Node}, Chain.{Leads}, Steps.{Leaf, cycle, path, absent, false_step}}
use Rattle.pc_ground.specs.{declared.literal.Literal.{Literal, TheVariants.{NoNode, NoEdge}}, Tree.{Tree, never}, Literals.{Joins, IsPresent}}
use Rattle.pc_ground.specs.Refutes.{Branch, literals_of, IsContradiction, a_cycle, a_path, an_absence, Closes, a_contradiction, a_falsity}
use Rattle.refutation.specs.BranchFacts.{PlainBranchFact}
use Rattle.tree_check.specs.{Facts.{HasFacts, HasEdge}, Leaves.{IsCycle, IsPath, IsAbsent}}
use Rattle.tree_check.proofs.BranchFacts.{edge_literal, no_edge_literal, no_node_literal, present_literal}

leads_as : {N : Type 0} (R S : N → N → Type 0) → ((a b : N) → R a b → S a b) → (a : N) (via : List N) (b : N) → Leads R a via b → Leads S a via b
leads_as R S f a [] b l = f a b l
leads_as R S f a (x ∷ xs) b l = (f a x l.0, leads_as R S f x xs b l.1)

module _ (t : Tree Node) (ls : List (Literal Node)) where
  nodes_first : (a b : Node) (xs ys : List Node) → a ∷ xs ≡ b ∷ ys → (a ≡ b) × (xs ≡ ys)
  nodes_first a b xs ys e = ((let first : a ≡ b = cc in first), (let rest : xs ≡ ys = cc in rest))

  snoc_same : (xs ys : List Node) (a b : Node) → xs ++ a ∷ [] ≡ ys ++ b ∷ [] → (xs ≡ ys) × (a ≡ b)
  snoc_same [] [] a b e = (refl, (nodes_first a b [] [] e).0)
  snoc_same [] (y ∷ ys) a b e = absurd (none ys b (nodes_first a y [] (ys ++ b ∷ []) e).1)
    where
      none : (ys : List Node) (b : Node) → [] ≡ ys ++ b ∷ [] → ⊥
      none [] b e = cc
      none (y ∷ ys) b e = cc
  snoc_same (x ∷ xs) [] a b e = absurd (none xs a (nodes_first x b (xs ++ a ∷ []) [] e).1)
    where
      none : (ys : List Node) (b : Node) → ys ++ b ∷ [] ≡ [] → ⊥
      none [] b e = cc
      none (y ∷ ys) b e = cc
  snoc_same (x ∷ xs) (y ∷ ys) a b e =
      let parts = nodes_first x y (xs ++ a ∷ []) (ys ++ b ∷ []) e in
      let rest = snoc_same xs ys a b parts.1 in
      (ap (λ z. z ∷ xs) parts.0 ∙ ap (λ zs. y ∷ zs) rest.0, rest.1)

  -- what a leaf of each kind says
  from_cycle : (s : Leaf Node) → IsContradiction ls s → (nodes : List Node) → s ≡ cycle nodes
      → (a : Node) × (via : List Node) × (nodes ≡ a ∷ via) × Leads (Joins ls) a via a
  from_cycle s (a_cycle a via leads) nodes e = (let same : a ∷ via ≡ nodes = cc in (a, via, sym same, leads))
  from_cycle s (a_path a via b leads has) nodes e = cc
  from_cycle s (an_absence a has is) nodes e = cc

  from_path : (s : Leaf Node) → IsContradiction ls s → (nodes : List Node) → s ≡ path nodes
      → (a : Node) × (via : List Node) × (b : Node) × (nodes ≡ a ∷ (via ++ b ∷ [])) × Leads (Joins ls) a via b × Contains ls (NoEdge a b)
  from_path s (a_cycle a via leads) nodes e = cc
  from_path s (a_path a via b leads has) nodes e = (let same : a ∷ (via ++ b ∷ []) ≡ nodes = cc in (a, via, b, sym same, leads, has))
  from_path s (an_absence a has is) nodes e = cc

  from_absence : (s : Leaf Node) → IsContradiction ls s → (b : Node) → s ≡ absent b → Contains ls (NoNode b) × IsPresent ls b
  from_absence s (a_cycle a via leads) b e = cc
  from_absence s (a_path a via c leads has) b e = cc
  from_absence s (an_absence a has is) b e =
      let same : a ≡ b = cc in
      let P : Node → Type 0 = λ n. Contains ls (NoNode n) × IsPresent ls n in
      subst P same (has, is)

  none_false : (s : Leaf Node) → IsContradiction ls s → s ≡ false_step → ⊥
  none_false s (a_cycle a via leads) e = cc
  none_false s (a_path a via b leads has) e = cc
  none_false s (an_absence a has is) e = cc

  -- what closes a branch is a contradiction, or the tree is False
  from_closes : (s : Leaf Node) → Closes t ls s → IsContradiction ls s ⊎ ((t ≡ never) × (s ≡ false_step))
  from_closes s (a_contradiction c) = inl c
  from_closes s (a_falsity is) = inr (is, refl)

  pub contradiction_of : (s : Leaf Node) → (s ≡ false_step → ⊥) → Closes t ls s → IsContradiction ls s
  contradiction_of s none h = elim (from_closes s h) [ inl c ↦ c | inr both ↦ absurd (none both.1) ]

  pub falsity_of : Closes t ls false_step → t ≡ never
  falsity_of h = elim (from_closes false_step h) [ inl c ↦ absurd (none_false false_step c refl) | inr both ↦ both.0 ]

module _ (t : Tree Node) (facts : List PlainBranchFact) (ps : Branch) (has : HasFacts t facts ps) where
  pub cycle_closes : (nodes : List Node) → IsCycle facts nodes ↔ Closes t (literals_of t ps) (cycle nodes)
  cycle_closes [] =
      (λ h. absurd h, λ h. let c = from_cycle t ls (cycle []) (contradiction_of t ls (cycle []) (λ e. cc) h) [] refl in absurd (none c.0 c.1 c.2))
    where
      ls : List (Literal Node)
      ls = literals_of t ps

      none : (a : Node) (via : List Node) → [] ≡ a ∷ via → ⊥
      none a via e = cc
  cycle_closes (a ∷ via) = (
    λ l. a_contradiction (a_cycle a via (leads_as (HasEdge facts) (Joins (literals_of t ps)) (λ x y. (edge_literal t facts ps has x y).0) a via a l)),
    λ h. let c = from_cycle t (literals_of t ps) (cycle (a ∷ via)) (contradiction_of t (literals_of t ps) (cycle (a ∷ via)) (λ e. cc) h) (a ∷ via) refl in
        let P : List Node → Type 0 = λ ns. IsCycle facts ns in
        subst P (sym c.2) (leads_as (Joins (literals_of t ps)) (HasEdge facts) (λ x y. (edge_literal t facts ps has x y).1) c.0 c.1 c.0 c.3),
  )

  pub path_closes : (nodes : List Node) → IsPath facts nodes ↔ Closes t (literals_of t ps) (path nodes)
  path_closes nodes = (
    λ p. let P : List Node → Type 0 = λ ns. Closes t (literals_of t ps) (path ns) in
        subst P (sym p.all) (a_contradiction (a_path p.first p.via p.last
        (leads_as (HasEdge facts) (Joins (literals_of t ps)) (λ x y. (edge_literal t facts ps has x y).0) p.first p.via p.last p.leads)
        ((no_edge_literal t facts ps has p.first p.last).0 p.apart))),
    λ h. let c = from_path t (literals_of t ps) (path nodes) (contradiction_of t (literals_of t ps) (path nodes) (λ e. cc) h) nodes refl in record {
      first = c.0;
      via = c.1;
      last = c.2;
      all = c.3;
      leads = leads_as (Joins (literals_of t ps)) (HasEdge facts) (λ x y. (edge_literal t facts ps has x y).1) c.0 c.1 c.2 c.4;
      apart = (no_edge_literal t facts ps has c.0 c.2).1 c.5;
    },
  )

  pub absent_closes : (a : Node) → IsAbsent facts a ↔ Closes t (literals_of t ps) (absent a)
  absent_closes a = (
    λ h. a_contradiction (an_absence a ((no_node_literal t facts ps has a).0 h.0) ((present_literal t facts ps has a).0 h.1)),
    λ h. let c = from_absence t (literals_of t ps) (absent a) (contradiction_of t (literals_of t ps) (absent a) (λ e. cc) h) a refl in
        ((no_node_literal t facts ps has a).1 c.0, (present_literal t facts ps has a).1 c.1),
  )

pub false_closes : (t : Tree Node) (ls : List (Literal Node)) → (t ≡ never) ↔ Closes t ls false_step
false_closes t ls = (λ e. a_falsity e, λ h. falsity_of t ls h)
