-- A refutation leaves no world in which its tree is true.
use Rattle.std.proofs.Common.{◌||◌, ◌≡◌, ℕ, ◌+◌, ◌⊎◌, inl, inr, Bool, true, false, not, List, [], ◌∷◌, Option, Some, None, refl, sym, ◌∙◌, ap, subst}
use Rattle.std.specs.Prelude.{Contains, IsTrue}
use Rattle.pc_common.specs.{World.{Node, World, has_node, has_edge, IsWorld}, Chain.{Leads}, Steps.{Leaf, Step, split, close}}
use Rattle.pc_common.proofs.{Elements.{In, in_from_contains, in_either, from_flat, from_map}, Nodes.{has_node_is, has_edge_is}, Bools.{and_first, and_second}}
use Rattle.pc_ground.specs.declared.{literal.Literal.{Literal, TheVariants.{Node as a_node, Edge, NoNode, NoEdge}}, version.Version.{Version}}
use Rattle.pc_ground.specs.declared.version.Version.TheVariants.{One, Two}
use Rattle.pc_ground.specs.Tree.{Tree, always, never, leaf, both, either, negation, turned, size_of, literal_true, tree_true}
use Rattle.pc_ground.specs.Literals.{Joins, IsPresent, as_node, as_start, as_end}
use Rattle.pc_ground.specs.Refutes.{subtree_at, asserted, Signed, signed, all_signed, part_at, Branch, literal_of, literals_of, IsContradiction, a_cycle, a_path, an_absence, Closes, a_contradiction, a_falsity, with_side, left_branch, right_branch, Runs, IsPartial, IsRefutation}
use Rattle.pc_ground.proofs.{FlatRows.{children_both, children_either}, Turned.{subtree_denied, negation_true}}

module _ (w : World Node) (is_world : IsWorld w) where
  -- each of these positions is true in the world
  abbrev AllTrue : Tree Node → List ℕ → Type 0
  AllTrue t ps = (p : ℕ) → In p ps → (s : Tree Node) → subtree_at t p ≡ Some s → tree_true w s ≡ true

  -- each position of the branch is true in the world
  abbrev IsTrueBranch : Tree Node → Branch → Type 0
  IsTrueBranch t ps = (q : Signed) → In q ps → (s : Tree Node) → part_at t q ≡ Some s → tree_true w s ≡ true

  abbrev SomeTrue : Tree Node → List Branch → Type 0
  SomeTrue t [] = ⊥
  SomeTrue t (ps ∷ opens) = IsTrueBranch t ps ⊎ SomeTrue t opens

  abbrev AreTrue : List (Literal Node) → Type 0
  AreTrue ls = (l : Literal Node) → Contains ls l → literal_true w l ≡ true

  edge_then : (a b c : Node) → has_edge w a b ≡ true → has_edge w b c ≡ true → has_edge w a c ≡ true
  edge_then a b c f g =
      (has_edge_is w a c).1 (is_world.transitive a b c ((has_edge_is w a b).0 f) ((has_edge_is w b c).0 g))

  -- a chain of asserted edges is an edge of the world
  chain_true : (ls : List (Literal Node)) → AreTrue ls → (a : Node) (via : List Node) (b : Node) → Leads (Joins ls) a via b → has_edge w a b ≡ true
  chain_true ls h a [] b joins = h (Edge a b) joins
  chain_true ls h a (x ∷ xs) b leads = edge_then a x b (h (Edge a x) leads.0) (chain_true ls h x xs b leads.1)

  no_loop : (a : Node) → has_edge w a a ≡ true → ⊥
  no_loop a e = is_world.irreflexive a ((has_edge_is w a a).0 e)

  -- what is present is a node of the world
  present_true : (ls : List (Literal Node)) → AreTrue ls → (a : Node) → IsPresent ls a → has_node w a ≡ true
  present_true ls h a (as_node has) = h (a_node a) has
  present_true ls h a (as_start b has) = (has_node_is w a).1 (is_world.ends a b ((has_edge_is w a b).0 (h (Edge a b) has))).0
  present_true ls h a (as_end b has) = (has_node_is w a).1 (is_world.ends b a ((has_edge_is w b a).0 (h (Edge b a) has))).1

  denied : (b : Bool) → not b ≡ true → b ≡ true → ⊥
  denied true n p = cc
  denied false n p = cc

  -- literals that are true contradict nothing, and close no leaf
  contradicts_none : (ls : List (Literal Node)) → AreTrue ls → (s : Leaf Node) → IsContradiction ls s → ⊥
  contradicts_none ls h s (a_cycle a via leads) = no_loop a (chain_true ls h a via a leads)
  contradicts_none ls h s (a_path a via b leads has) = denied (has_edge w a b) (h (NoEdge a b) has) (chain_true ls h a via b leads)
  contradicts_none ls h s (an_absence a has present) = denied (has_node w a) (h (NoNode a) has) (present_true ls h a present)

  closes_none : (t : Tree Node) → tree_true w t ≡ true → (ls : List (Literal Node)) → AreTrue ls → (s : Leaf Node) → Closes t ls s → ⊥
  closes_none t is ls h s (a_contradiction c) = contradicts_none ls h s c
  closes_none t is ls h s (a_falsity same) = (let P : Tree Node → Type 0 = λ u. tree_true w u ≡ true in let f : false ≡ true = subst P same is in cc)

  -- the literals of a true branch are true
  literal_known : (s : Tree Node) → tree_true w s ≡ true → (l : Literal Node) → In l (literal_of (Some s)) → literal_true w l ≡ true
  literal_known always is l i = elim i [ ]
  literal_known never is l i = elim i [ ]
  literal_known (leaf m) is l (inl same) = ap (literal_true w) (sym same) ∙ is
  literal_known (leaf m) is l (inr i) = elim i [ ]
  literal_known (both a b) is l i = elim i [ ]
  literal_known (either a b) is l i = elim i [ ]

  at_position : (o : Option (Tree Node)) → ((s : Tree Node) → o ≡ Some s → tree_true w s ≡ true) → (l : Literal Node) → In l (literal_of o)
      → literal_true w l ≡ true
  at_position None each l i = elim i [ ]
  at_position (Some s) each l i = literal_known s (each s refl) l i

  literals_true : (t : Tree Node) (ps : Branch) → IsTrueBranch t ps → AreTrue (literals_of t ps)
  literals_true t ps h l has =
      let r = from_flat (λ q. literal_of (part_at t q)) l ps (in_from_contains l (literals_of t ps) has) in
      at_position (part_at t r.0) (h r.0 r.1) l r.2

  here : (t s : Tree Node) (q : ℕ) → subtree_at t q ≡ Some s → tree_true w s ≡ true → (p : ℕ) → q ≡ p → (u : Tree Node) → subtree_at t p ≡ Some u
      → tree_true w u ≡ true
  here t s q at is p same u f =
      let found : Some s ≡ Some u = sym at ∙ ap (subtree_at t) same ∙ f in
      let one : s ≡ u = cc in
      ap (tree_true w) (sym one) ∙ is

  -- what a true side asserts is true
  side_true : (t s : Tree Node) (q : ℕ) → subtree_at t q ≡ Some s → tree_true w s ≡ true → AllTrue t (asserted s q)
  side_true t always q at is p (inl e) u f = here t always q at is p e u f
  side_true t never q at is p (inl e) u f = here t never q at is p e u f
  side_true t (leaf l) q at is p (inl e) u f = here t (leaf l) q at is p e u f
  side_true t (either a b) q at is p (inl e) u f = here t (either a b) q at is p e u f
  side_true t (both a b) q at is p (inl e) u f = here t (both a b) q at is p e u f
  side_true t (both a b) q at is p (inr i) u f =
      let below = children_both t q a b at in
      elim (in_either p (asserted a (q + 1)) (asserted b (q + 1 + size_of a)) i) [
        | inl j ↦ side_true t a (q + 1) below.0 (and_first (tree_true w a) (tree_true w b) is) p j u f
        | inr j ↦ side_true t b (q + 1 + size_of a) below.1 (and_second (tree_true w a) (tree_true w b) is) p j u f
      ]
  side_true t always q at is p (inr i) u f = elim i [ ]
  side_true t never q at is p (inr i) u f = elim i [ ]
  side_true t (leaf l) q at is p (inr i) u f = elim i [ ]
  side_true t (either a b) q at is p (inr i) u f = elim i [ ]

  -- the positions of a side, under a sign
  signed_true : (t : Tree Node) (n : Bool) (ps : List ℕ) → AllTrue (turned n t) ps → IsTrueBranch t (all_signed n ps)
  signed_true t n ps h q i s e =
      let from = from_map (signed n) q ps i in
      h from.0 from.1 s (ap (part_at t) from.2 ∙ e)

  -- a branch with a side more, which is true
  with_true : (t : Tree Node) (ps : Branch) (n : Bool) (s : Tree Node) (p : ℕ) → IsTrueBranch t ps → subtree_at (turned n t) p ≡ Some s
      → tree_true w s ≡ true → IsTrueBranch t (with_side ps n s p)
  with_true t ps n s p h at is q i u f =
      elim (in_either q ps (all_signed n (asserted s p)) i) [
        | inl j ↦ h q j u f
        | inr j ↦ signed_true t n (asserted s p) (side_true (turned n t) s p at is) q j u f
      ]

  right_true : (v : Version) (t : Tree Node) (ps : Branch) (n : Bool) (p : ℕ) (a b : Tree Node) → IsTrueBranch t ps
      → subtree_at (turned n t) (p + 1) ≡ Some a → subtree_at (turned n t) (p + 1 + size_of a) ≡ Some b
      → tree_true w a ≡ false → tree_true w b ≡ true → IsTrueBranch t (right_branch v ps n p a b)
  right_true One t ps n p a b h left right fa tb = with_true t ps n b (p + 1 + size_of a) h right tb
  right_true Two t ps n p a b h left right fa tb =
      with_true t (with_side ps (not n) (negation a) (p + 1)) n b (p + 1 + size_of a)
      (with_true t ps (not n) (negation a) (p + 1) h (subtree_denied t n (p + 1) a left) (negation_true w a ∙ ap not fa)) right tb

  -- of an Or that is true one side is, the right one where the left one is not
  one_side : (a b : Bool) → (a || b) ≡ true → (a ≡ true) ⊎ ((a ≡ false) × (b ≡ true))
  one_side true b e = inl refl
  one_side false b e = inr (refl, e)

  -- steps that close all branches leave no branch that is true
  closed_none : (v : Version) (t : Tree Node) → tree_true w t ≡ true → (steps : List (Step Node)) (opens : List Branch) → Runs v t steps opens []
      → SomeTrue t opens → ⊥
  closed_none v t is [] opens r some = (let P : List Branch → Type 0 = λ x. SomeTrue t x in subst P r some)
  closed_none v t is (s ∷ ss) [] r some = some
  closed_none v t is (split n p ∷ ss) (ps ∷ opens) r (inr some) = closed_none v t is ss _ r.3 (inr (inr some))
  closed_none v t is (split n p ∷ ss) (ps ∷ opens) r (inl h) =
      let a = r.0 in
      let b = r.1 in
      let at = r.2.1 in
      let below = children_either (turned n t) p a b at in
      elim (one_side (tree_true w a) (tree_true w b) (h (signed n p) (in_from_contains (signed n p) ps r.2.0) (either a b) at)) [
        | inl ta ↦ closed_none v t is ss _ r.3 (inl (with_true t ps n a (p + 1) h below.0 ta))
        | inr fb ↦ closed_none v t is ss _ r.3 (inr (inl (right_true v t ps n p a b h below.0 below.1 fb.0 fb.1)))
      ]
  closed_none v t is (close l ∷ ss) (ps ∷ opens) r (inl h) = closes_none t is (literals_of t ps) (literals_true t ps h) l r.0
  closed_none v t is (close l ∷ ss) (ps ∷ opens) r (inr some) = closed_none v t is ss opens r.1 some

  refuted_none : (v : Version) (t : Tree Node) (steps : List (Step Node)) → IsRefutation v t steps → tree_true w t ≡ true → ⊥
  refuted_none v t steps r is =
      closed_none v t is steps (all_signed false (asserted t 0) ∷ []) r (inl (signed_true t false (asserted t 0) (side_true t t 0 refl is)))

pub refutation_sound : (v : Version) (t : Tree Node) (steps : List (Step Node)) → IsRefutation v t steps → (w : World Node) → IsWorld w
    → IsTrue (tree_true w t) → ⊥
refutation_sound v t steps r w is_world is = refuted_none w is_world v t steps r is

-- no position of the branch has a sign
abbrev pub HasNoSign : Branch → Type 0
HasNoSign ps = (q : Signed) → In q ps → q.negated ≡ false

abbrev NoneSigned : List Branch → Type 0
NoneSigned opens = (ps : Branch) → In ps opens → HasNoSign ps

pub plain_side : {N : Type 0} (ps : Branch) (n : Bool) (s : Tree N) (p : ℕ) → HasNoSign ps → n ≡ false → HasNoSign (with_side ps n s p)
plain_side ps n s p h plain q i =
    elim (in_either q ps (all_signed n (asserted s p)) i) [
      | inl j ↦ h q j
      | inr j ↦ (let from = from_map (signed n) q (asserted s p) j in ap (λ (x : Signed). x.negated) (sym from.2) ∙ plain)
    ]

plain_opens : (ps : Branch) (opens : List Branch) → HasNoSign ps → NoneSigned opens → NoneSigned (ps ∷ opens)
plain_opens ps opens h rest qs (inl e) q i = h q (let P : Branch → Type 0 = λ xs. In q xs in subst P (sym e) i)
plain_opens ps opens h rest qs (inr j) q i = rest qs j q i

runs_plain : {N : Type 0} (t : Tree N) (steps : List (Step N)) (opens rest : List Branch) → Runs One t steps opens rest → NoneSigned opens → NoneSigned rest
runs_plain t [] opens rest r none = (let P : List Branch → Type 0 = λ x. NoneSigned x in subst P r none)
runs_plain t (s ∷ ss) [] rest r none = absurd r
runs_plain {N} t (split n p ∷ ss) (ps ∷ opens) rest r none =
    let a = r.0 in
    let b = r.1 in
    let h = none ps (inl refl) in
    let plain : n ≡ false = h (signed n p) (in_from_contains (signed n p) ps r.2.0) in
    runs_plain t ss (left_branch ps n p a ∷ right_branch One ps n p a b ∷ opens) rest r.3
    (plain_opens (left_branch ps n p a) (right_branch One ps n p a b ∷ opens) (plain_side ps n a (p + 1) h plain)
    (plain_opens (right_branch One ps n p a b) opens (plain_side ps n b (p + 1 + size_of a) h plain) (λ qs j. none qs (inr j))))
runs_plain t (close l ∷ ss) (ps ∷ opens) rest r none = runs_plain t ss opens rest r.1 (λ qs j. none qs (inr j))

-- in version 1 no position has a sign
pub one_has_no_sign : {N : Type 0} (t : Tree N) (steps : List (Step N)) (opens : List Branch) → IsPartial One t steps opens
    → (ps : Branch) → Contains opens ps → (q : Signed) → Contains ps q → q.negated ≡ false
one_has_no_sign {N} t steps opens r ps has q i =
    let root : HasNoSign (all_signed false (asserted t 0)) = plain_side [] false t 0 (λ q i. elim i [ ]) refl in
    runs_plain t steps (all_signed false (asserted t 0) ∷ []) opens r (plain_opens (all_signed false (asserted t 0)) [] root (λ qs j. elim j [ ]))
    ps (in_from_contains ps opens has) q (in_from_contains q ps i)
