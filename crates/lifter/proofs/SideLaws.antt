-- The tree of a fact by those of its sides or its parts, and that these have a lower rank.
use Rattle.std.proofs.Common.{◌≡◌, ℕ, ◌+◌, ◌<◌, ◌≤◌, Bool, true, false, not, List, [], ◌∷◌, ◌++◌, Option, Some, None, length, map, drop, refl, sym, ◌∙◌, ap, subst, arith}
use Rattle.std.{proofs.lemmas.{Bool.{ltb-true, ltb-false}, Option.{slice_get_within}, List.{drop_all}}, specs.Prelude.{slice_get, nat_lt}}
use Rattle.std.specs.Option.{option_map, option_and_then}
use Rattle.pc_common.{specs.{Case.{Case}, World.{Node}}, proofs.Places.{there_at}}
use Rattle.pc_syntax.specs.{declared.closed_term.{ClosedNode.{ClosedNode}, ClosedEdge.{ClosedEdge}}, Predicates.{predicate_holds}, Truth.{Meaning, range_of}}
use Rattle.pc_syntax.specs.Closed.{PlainClosed, closed_not, closed_and, closed_or, closed_implies, closed_forall, closed_exists, closed_static, closed_nodes, closed_edges, closed_bind, closed_node, closed_value, closed_argument}
use Rattle.pc_ground.specs.{Tree.{Tree, always, never}, PlainGround.{conjoined, disjoined}, Unfolded.{decided}}
use Rattle.static_preds.proofs.Walked.{drop_at}
use Rattle.lifted_facts.specs.{declared.way.Way.{Way, TheVariants.{Left, Right, Not, Bind, Inst, Member}}, PlainFacts.{PlainFact, said, one_node, one_edge}}
use Rattle.lifted_facts.{specs.Parts.{number_of_instance, said_inside, part_of, or_later, sides, is_false}, proofs.PartTruth.{mapped}}
use Rattle.lifter.specs.{Trees.{signed_tree, said_tree, joined_trees, node_tree, edge_tree, fact_tree}, PartLists.{parts, IsSaid}}
use Rattle.lifter.proofs.{TreeLaws.{start_tree, forall_tree, exists_tree, nodes_tree, edges_tree}, Ranks.{weight, rank}}

abbrev pair : PlainFact → PlainFact → PlainFact × PlainFact
pair f g = (f, g)

both_of : (first : Option PlainFact) (later : PlainFact) (g h : PlainFact) → or_later first later ≡ Some (pair g h) → (first ≡ Some g) × (later ≡ h)
both_of None later g h e = cc
both_of (Some f) later g h e =
    (let same : pair f later ≡ pair g h = cc in (ap (λ (x : PlainFact × PlainFact). Some x.0) same, ap (λ (x : PlainFact × PlainFact). x.1) same))

first_of_pair : (f g x y : PlainFact) → Some (pair f g) ≡ Some (pair x y) → (f ≡ x) × (g ≡ y)
first_of_pair f g x y e =
    (let same : pair f g ≡ pair x y = cc in (ap (λ (z : PlainFact × PlainFact). z.0) same, ap (λ (z : PlainFact × PlainFact). z.1) same))

module _ (c : Case) where
  -- two sides that are formulas
  two : (plus more : Bool) (p q : PlainClosed) (slots : List Meaning) (g h : PlainFact)
      → Some (pair (said plus p slots 0) (said more q slots 0)) ≡ Some (pair g h)
      → disjoined (said_tree c plus p slots) (said_tree c more q slots) ≡ disjoined (fact_tree c g) (fact_tree c h)
  two plus more p q slots g h e =
      let s = first_of_pair (said plus p slots 0) (said more q slots 0) g h e in
      ap (λ t. disjoined t (said_tree c more q slots)) (sym (start_tree c slots plus p) ∙ ap (fact_tree c) s.0)
      ∙ ap (disjoined (fact_tree c g)) (sym (start_tree c slots more q) ∙ ap (fact_tree c) s.1)

  -- the first of several members, and the others
  first_member : {X : Type 0} (tree : X → Tree Node) (fact : X → PlainFact) (xs : List X) (s : ℕ) (later : PlainFact) (g h : PlainFact)
      → ((x : X) → tree x ≡ fact_tree c (fact x)) → fact_tree c later ≡ joined_trees false (map tree (drop (s + 1) xs))
      → or_later (option_map fact (slice_get xs s)) later ≡ Some (pair g h)
      → joined_trees false (map tree (drop s xs)) ≡ disjoined (fact_tree c g) (fact_tree c h)
  first_member tree fact xs s later g h same rest e =
      let b = both_of (option_map fact (slice_get xs s)) later g h e in
      let m = mapped fact (slice_get xs s) g b.0 in
      ap (λ ys. joined_trees false (map tree ys)) (drop_at xs s (s + 1) m.0 m.1 refl)
      ∙ ap (λ t. disjoined t (joined_trees false (map tree (drop (s + 1) xs)))) (same m.0 ∙ ap (fact_tree c) m.2)
      ∙ ap (disjoined (fact_tree c g)) (sym rest ∙ ap (fact_tree c) b.1)

  pub sides_tree : (f g h : PlainFact) → sides c f ≡ Some (g, h) → fact_tree c f ≡ disjoined (fact_tree c g) (fact_tree c h)
  sides_tree (said true (closed_or p q) slots s) g h e = two true true p q slots g h e
  sides_tree (said false (closed_and p q) slots s) g h e = two false false p q slots g h e
  sides_tree (said true (closed_implies p q) slots s) g h e = two false true p q slots g h e
  sides_tree (said true (closed_exists sort p) slots s) g h e =
      first_member (λ v. said_tree c true p (slots ++ v ∷ [])) (λ v. said_inside true p slots (v ∷ [])) (range_of c sort) s
      (said true (closed_exists sort p) slots (s + 1)) g h (λ v. sym (start_tree c (slots ++ v ∷ []) true p)) refl e
  sides_tree (said false (closed_forall sort p) slots s) g h e =
      first_member (λ v. said_tree c false p (slots ++ v ∷ [])) (λ v. said_inside false p slots (v ∷ [])) (range_of c sort) s
      (said false (closed_forall sort p) slots (s + 1)) g h (λ v. sym (start_tree c (slots ++ v ∷ []) false p)) refl e
  sides_tree (said false (closed_nodes ts) slots s) g h e =
      first_member (node_tree c false slots) (λ (t : ClosedNode). one_node false (closed_node c slots t)) ts s
      (said false (closed_nodes ts) slots (s + 1)) g h (λ (t : ClosedNode). refl) refl e
  sides_tree (said false (closed_edges ts) slots s) g h e =
      first_member (edge_tree c false slots) (λ (t : ClosedEdge). one_edge false (closed_node c slots t.from) (closed_node c slots t.to)) ts s
      (said false (closed_edges ts) slots (s + 1)) g h (λ (t : ClosedEdge). refl) refl e
  sides_tree f g h e = cc

  conjoined_always : (t : Tree Node) → conjoined t always ≡ t
  conjoined_always always = refl
  conjoined_always _ = refl

  two_parts : (plus more : Bool) (p q : PlainClosed) (slots : List Meaning)
      → conjoined (said_tree c plus p slots) (said_tree c more q slots) ≡ joined_trees true (map (fact_tree c) (said plus p slots 0 ∷ said more q slots 0 ∷ []))
  two_parts plus more p q slots =
      ap (λ t. conjoined t (said_tree c more q slots)) (sym (start_tree c slots plus p))
      ∙ ap (conjoined (fact_tree c (said plus p slots 0))) (sym (start_tree c slots more q) ∙ sym (conjoined_always (fact_tree c (said more q slots 0))))

  one_part : (plus : Bool) (p : PlainClosed) (slots : List Meaning)
      → said_tree c plus p slots ≡ joined_trees true (map (fact_tree c) (said plus p slots 0 ∷ []))
  one_part plus p slots = sym (start_tree c slots plus p) ∙ sym (conjoined_always (fact_tree c (said plus p slots 0)))

  each_part : {X : Type 0} (tree : X → Tree Node) (fact : X → PlainFact) (xs : List X) → ((x : X) → tree x ≡ fact_tree c (fact x))
      → joined_trees true (map tree xs) ≡ joined_trees true (map (fact_tree c) (map fact xs))
  each_part tree fact [] same = refl
  each_part tree fact (x ∷ xs) same =
      ap (λ t. conjoined t (joined_trees true (map tree xs))) (same x) ∙ ap (conjoined (fact_tree c (fact x))) (each_part tree fact xs same)

  -- a fact with a member left has sides
  sided : {X : Type 0} (fact : X → PlainFact) (xs : List X) (s : ℕ) (later : PlainFact) → not (nat_lt s (length xs)) ≡ false
      → or_later (option_map fact (slice_get xs s)) later ≡ None → ⊥
  sided fact xs s later left e =
      let x = there_at xs s (ltb-true s (length xs) (is_yes (nat_lt s (length xs)) left)) in
      let clash : or_later (option_map fact (Some x.0)) later ≡ None = sym (ap (λ o. or_later (option_map fact o) later) x.1) ∙ e in
      cc
    where
      is_yes : (b : Bool) → not b ≡ false → b ≡ true
      is_yes true h = refl
      is_yes false h = cc

  pub parts_tree : (f : PlainFact) → IsSaid f → sides c f ≡ None → is_false c f ≡ false → fact_tree c f ≡ joined_trees true (map (fact_tree c) (parts c f))
  parts_tree (said true (closed_and p q) slots s) is none fine = two_parts true true p q slots
  parts_tree (said false (closed_or p q) slots s) is none fine = two_parts false false p q slots
  parts_tree (said false (closed_implies p q) slots s) is none fine = two_parts true false p q slots
  parts_tree (said true (closed_not p) slots s) is none fine = one_part false p slots
  parts_tree (said false (closed_not p) slots s) is none fine = one_part true p slots
  parts_tree (said true (closed_bind args p) slots s) is none fine = one_part true p (slots ++ map (closed_value slots) args)
  parts_tree (said false (closed_bind args p) slots s) is none fine = one_part false p (slots ++ map (closed_value slots) args)
  parts_tree (said true (closed_forall sort p) slots s) is none fine =
      forall_tree c slots true sort p
      ∙ each_part (λ v. said_tree c true p (slots ++ v ∷ [])) (λ v. said_inside true p slots (v ∷ [])) (range_of c sort)
      (λ v. sym (start_tree c (slots ++ v ∷ []) true p))
  parts_tree (said false (closed_exists sort p) slots s) is none fine =
      exists_tree c slots false sort p
      ∙ each_part (λ v. said_tree c false p (slots ++ v ∷ [])) (λ v. said_inside false p slots (v ∷ [])) (range_of c sort)
      (λ v. sym (start_tree c (slots ++ v ∷ []) false p))
  parts_tree (said true (closed_nodes ts) slots s) is none fine =
      nodes_tree c slots true ts ∙ each_part (node_tree c true slots) (λ (t : ClosedNode). one_node true (closed_node c slots t)) ts (λ (t : ClosedNode). refl)
  parts_tree (said true (closed_edges ts) slots s) is none fine =
      edges_tree c slots true ts
      ∙ each_part (edge_tree c true slots) (λ (t : ClosedEdge). one_edge true (closed_node c slots t.from) (closed_node c slots t.to)) ts
      (λ (t : ClosedEdge). refl)
  parts_tree (said true (closed_static pred args) slots s) is none fine = static_true (predicate_holds c pred (map (closed_argument slots) args)) fine
    where
      static_true : (b : Bool) → not b ≡ false → signed_tree true (decided b) ≡ always
      static_true true e = refl
      static_true false e = cc
  parts_tree (said false (closed_static pred args) slots s) is none fine = static_false (predicate_holds c pred (map (closed_argument slots) args)) fine
    where
      static_false : (b : Bool) → b ≡ false → signed_tree false (decided b) ≡ always
      static_false true e = cc
      static_false false e = refl
  parts_tree (said true (closed_exists sort p) slots s) is none fine =
      absurd (sided (λ v. said_inside true p slots (v ∷ [])) (range_of c sort) s (said true (closed_exists sort p) slots (s + 1)) fine none)
  parts_tree (said false (closed_forall sort p) slots s) is none fine =
      absurd (sided (λ v. said_inside false p slots (v ∷ [])) (range_of c sort) s (said false (closed_forall sort p) slots (s + 1)) fine none)
  parts_tree (said false (closed_nodes ts) slots s) is none fine =
      absurd (sided (λ (t : ClosedNode). one_node false (closed_node c slots t)) ts s (said false (closed_nodes ts) slots (s + 1)) fine none)
  parts_tree (said false (closed_edges ts) slots s) is none fine =
      absurd (sided (λ (t : ClosedEdge). one_edge false (closed_node c slots t.from) (closed_node c slots t.to)) ts s
      (said false (closed_edges ts) slots (s + 1)) fine none)
  parts_tree (one_node plus a) is none fine = elim is [ ]
  parts_tree (one_edge plus a b) is none fine = elim is [ ]
  parts_tree f is none fine = cc

  -- ranks
  start_rank : (plus : Bool) (p : PlainClosed) (slots : List Meaning) → rank c (said plus p slots 0) ≤ weight c p
  start_rank true (closed_exists sort p) slots = omega arith
  start_rank false (closed_forall sort p) slots = omega arith
  start_rank false (closed_nodes ts) slots = omega arith
  start_rank false (closed_edges ts) slots = omega arith
  start_rank true p slots = omega arith
  start_rank false p slots = omega arith

  same_rank : (f g : PlainFact) (n : ℕ) → rank c f < n → f ≡ g → rank c g < n
  same_rank f g n h e = subst (λ x. rank c x < n) e h

  two_rank : (plus more : Bool) (p q : PlainClosed) (slots : List Meaning) (g h : PlainFact)
      → Some (pair (said plus p slots 0) (said more q slots 0)) ≡ Some (pair g h)
      → (rank c g < weight c p + weight c q + 1) × (rank c h < weight c p + weight c q + 1)
  two_rank plus more p q slots g h e =
      let s = first_of_pair (said plus p slots 0) (said more q slots 0) g h e in (
        same_rank (said plus p slots 0) g (weight c p + weight c q + 1) (omega (arith, start_rank plus p slots)) s.0,
        same_rank (said more q slots 0) h (weight c p + weight c q + 1) (omega (arith, start_rank more q slots)) s.1,
      )

  first_rank : {X : Type 0} (fact : X → PlainFact) (xs : List X) (s n : ℕ) (later g h : PlainFact)
      → or_later (option_map fact (slice_get xs s)) later ≡ Some (pair g h)
      → ((x : X) → s < length xs → rank c (fact x) < n) → (s < length xs → rank c later < n) → (rank c g < n) × (rank c h < n)
  first_rank fact xs s n later g h e low less =
      let b = both_of (option_map fact (slice_get xs s)) later g h e in
      let m = mapped fact (slice_get xs s) g b.0 in
      let within = slice_get_within xs s m.0 m.1 in
      (same_rank (fact m.0) g n (low m.0 within) m.2, same_rank later h n (less within) b.1)

  pub sides_rank : (f g h : PlainFact) → sides c f ≡ Some (g, h) → (rank c g < rank c f) × (rank c h < rank c f)
  sides_rank (said true (closed_or p q) slots s) g h e = two_rank true true p q slots g h e
  sides_rank (said false (closed_and p q) slots s) g h e = two_rank false false p q slots g h e
  sides_rank (said true (closed_implies p q) slots s) g h e = two_rank false true p q slots g h e
  sides_rank (said true (closed_exists sort p) slots s) g h e =
      first_rank (λ v. said_inside true p slots (v ∷ [])) (range_of c sort) s (rank c (said true (closed_exists sort p) slots s))
      (said true (closed_exists sort p) slots (s + 1)) g h e (λ v within. omega (arith, start_rank true p (slots ++ v ∷ []))) (λ within. omega (arith, within))
  sides_rank (said false (closed_forall sort p) slots s) g h e =
      first_rank (λ v. said_inside false p slots (v ∷ [])) (range_of c sort) s (rank c (said false (closed_forall sort p) slots s))
      (said false (closed_forall sort p) slots (s + 1)) g h e (λ v within. omega (arith, start_rank false p (slots ++ v ∷ [])))
      (λ within. omega (arith, within))
  sides_rank (said false (closed_nodes ts) slots s) g h e =
      first_rank (λ (t : ClosedNode). one_node false (closed_node c slots t)) ts s (rank c (said false (closed_nodes ts) slots s))
      (said false (closed_nodes ts) slots (s + 1)) g h e (λ t within. omega (arith)) (λ within. omega (arith, within))
  sides_rank (said false (closed_edges ts) slots s) g h e =
      first_rank (λ (t : ClosedEdge). one_edge false (closed_node c slots t.from) (closed_node c slots t.to)) ts s
      (rank c (said false (closed_edges ts) slots s))
      (said false (closed_edges ts) slots (s + 1)) g h e (λ t within. omega (arith)) (λ within. omega (arith, within))
  sides_rank f g h e = cc

  one_less : (plus : Bool) (p : PlainClosed) (slots : List Meaning) (g : PlainFact) (n : ℕ) → weight c p < n → said plus p slots 0 ≡ g → rank c g < n
  one_less plus p slots g n h e = same_rank (said plus p slots 0) g n (omega (arith, start_rank plus p slots, h)) e

  made_less : {X : Type 0} (fact : X → PlainFact) (o : Option X) (g : PlainFact) (n : ℕ) → option_map fact o ≡ Some g → ((x : X) → rank c (fact x) < n)
      → rank c g < n
  made_less fact o g n e low = (let m = mapped fact o g e in same_rank (fact m.0) g n (low m.0) m.2)

  pub part_rank : (way : Way) (f g : PlainFact) → part_of c way f ≡ Some g → rank c g < rank c f
  part_rank Left (said true (closed_and p q) slots s) g e = one_less true p slots g (weight c p + weight c q + 1) (omega arith) cc
  part_rank Left (said false (closed_or p q) slots s) g e = one_less false p slots g (weight c p + weight c q + 1) (omega arith) cc
  part_rank Left (said false (closed_implies p q) slots s) g e = one_less true p slots g (weight c p + weight c q + 1) (omega arith) cc
  part_rank Right (said true (closed_and p q) slots s) g e = one_less true q slots g (weight c p + weight c q + 1) (omega arith) cc
  part_rank Right (said false (closed_or p q) slots s) g e = one_less false q slots g (weight c p + weight c q + 1) (omega arith) cc
  part_rank Right (said false (closed_implies p q) slots s) g e = one_less false q slots g (weight c p + weight c q + 1) (omega arith) cc
  part_rank Not (said true (closed_not p) slots s) g e = one_less false p slots g (weight c p + 1) (omega arith) cc
  part_rank Not (said false (closed_not p) slots s) g e = one_less true p slots g (weight c p + 1) (omega arith) cc
  part_rank Bind (said true (closed_bind args p) slots s) g e = one_less true p (slots ++ map (closed_value slots) args) g (weight c p + 1) (omega arith) cc
  part_rank Bind (said false (closed_bind args p) slots s) g e = one_less false p (slots ++ map (closed_value slots) args) g (weight c p + 1) (omega arith) cc
  part_rank (Inst v) (said true (closed_forall sort p) slots s) g e =
      made_less (λ u. said_inside true p slots (u ∷ [])) (option_and_then (slice_get (range_of c sort)) (number_of_instance sort v)) g
      (weight c p + length (range_of c sort) + 1) e
      (λ u. omega (arith, start_rank true p (slots ++ u ∷ [])))
  part_rank (Inst v) (said false (closed_exists sort p) slots s) g e =
      made_less (λ u. said_inside false p slots (u ∷ [])) (option_and_then (slice_get (range_of c sort)) (number_of_instance sort v)) g
      (weight c p + length (range_of c sort) + 1) e
      (λ u. omega (arith, start_rank false p (slots ++ u ∷ [])))
  part_rank (Member k) (said true (closed_nodes ts) slots s) g e =
      made_less (λ (t : ClosedNode). one_node true (closed_node c slots t)) (slice_get ts k) g (length ts + 1) e (λ t. omega arith)
  part_rank (Member k) (said true (closed_edges ts) slots s) g e =
      made_less (λ (t : ClosedEdge). one_edge true (closed_node c slots t.from) (closed_node c slots t.to)) (slice_get ts k) g (length ts + 1) e
      (λ t. omega arith)
  part_rank way f g e = cc

  past : (s n : ℕ) → not (nat_lt s n) ≡ true → n ≤ s
  past s n e = ltb-false s n (is_no (nat_lt s n) e)
    where
      is_no : (b : Bool) → not b ≡ true → b ≡ false
      is_no true h = cc
      is_no false h = refl

  none_left : {X : Type 0} (tree : X → Tree Node) (xs : List X) (s : ℕ) → not (nat_lt s (length xs)) ≡ true → joined_trees false (map tree (drop s xs)) ≡ never
  none_left tree xs s e = ap (λ ys. joined_trees false (map tree ys)) (drop_all s xs (past s (length xs) e))

  -- a fact that holds in no world by itself is False
  pub false_tree : (f : PlainFact) → is_false c f ≡ true → fact_tree c f ≡ never
  false_tree (said true (closed_exists sort p) slots s) e = none_left (λ v. said_tree c true p (slots ++ v ∷ [])) (range_of c sort) s e
  false_tree (said false (closed_forall sort p) slots s) e = none_left (λ v. said_tree c false p (slots ++ v ∷ [])) (range_of c sort) s e
  false_tree (said false (closed_nodes ts) slots s) e = none_left (node_tree c false slots) ts s e
  false_tree (said false (closed_edges ts) slots s) e = none_left (edge_tree c false slots) ts s e
  false_tree (said true (closed_static pred args) slots s) e = static_true (predicate_holds c pred (map (closed_argument slots) args)) e
    where
      static_true : (b : Bool) → not b ≡ true → signed_tree true (decided b) ≡ never
      static_true true h = cc
      static_true false h = refl
  false_tree (said false (closed_static pred args) slots s) e = static_false (predicate_holds c pred (map (closed_argument slots) args)) e
    where
      static_false : (b : Bool) → b ≡ true → signed_tree false (decided b) ≡ never
      static_false true h = refl
      static_false false h = cc
  false_tree f e = cc
