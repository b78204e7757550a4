-- A lifted refutation leaves no world in which its axioms are true.
use Rattle.std.{proofs.Common.{◌≡◌, ◌⊎◌, inl, inr, ℕ, true, false, List, [], ◌∷◌, ◌++◌, Some, sym, ◌∙◌, ap, subst}, specs.Prelude.{IsTrue, slice_get}}
use Rattle.pc_common.{specs.{Case.{Case}, World.{Node, World, has_node, has_edge, IsWorld}}, proofs.Elements.{all_holds, from_map}}
use Rattle.pc_common.proofs.{Nodes.{has_node_is, has_edge_is}, Places.{in_at, last_or}}
use Rattle.pc_syntax.specs.Closed.{PlainClosed, closed_true, closed_satisfies}
use Rattle.lifted_facts.specs.PlainFacts.{PlainFact, said, one_node, one_edge, Branch, root}
use Rattle.lifted_facts.specs.Lifted.{LiftedLeaf, falsity, cycle, path, absent, LiftedStep, derive, split, close, HasFact, Follows, Asserts, Closes, StepsTo, Advances, Runs, IsLiftedRefutation}
use Rattle.lifted_facts.proofs.{FactTruth.{fact_true, start_true, not_true}, PartTruth.{part_true, side_true, false_nowhere}}

module _ (c : Case) (w : World Node) (is_world : IsWorld w) where
  -- each fact of the branch is true in the world
  abbrev AllTrue : Branch → Type 0
  AllTrue b = (k : ℕ) (f : PlainFact) → HasFact b k f → fact_true c w f ≡ true

  with_true : (b : Branch) (g : PlainFact) → AllTrue b → fact_true c w g ≡ true → AllTrue (b ++ g ∷ [])
  with_true b g all is k f at = go (last_or b g k f at)
    where
      go : (slice_get b k ≡ Some f) ⊎ (g ≡ f) → fact_true c w f ≡ true
      go (inl there) = all k f there
      go (inr same) = ap (fact_true c w) (sym same) ∙ is

  edge_then : (x y z : Node) → has_edge w x y ≡ true → has_edge w y z ≡ true → has_edge w x z ≡ true
  edge_then x y z f g = (has_edge_is w x z).1 (is_world.transitive x y z ((has_edge_is w x y).0 f) ((has_edge_is w y z).0 g))

  -- edges that are joined are an edge of the world
  leads_on : (b : Branch) → AllTrue b → (ks : List ℕ) (x z y : Node) → has_edge w x z ≡ true → Follows b z ks y → has_edge w x y ≡ true
  leads_on b all [] x z y e same = (let P : Node → Type 0 = λ u. has_edge w x u ≡ true in subst P same e)
  leads_on b all (k ∷ ks) x z y e r = leads_on b all ks x r.0 y (edge_then x z r.0 e (all k (one_edge true (Some z) (Some r.0)) r.1)) r.2

  leads : (b : Branch) → AllTrue b → (k : ℕ) (ks : List ℕ) (x y : Node) → Follows b x (k ∷ ks) y → has_edge w x y ≡ true
  leads b all k ks x y r = leads_on b all ks x r.0 y (all k (one_edge true (Some x) (Some r.0)) r.1) r.2

  -- what a true fact asserts is a node of the world
  present : (f : PlainFact) (a : Node) → fact_true c w f ≡ true → Asserts f a → has_node w a ≡ true
  present (one_node true (Some x)) a is same = (let P : Node → Type 0 = λ u. has_node w u ≡ true in subst P same is)
  present (one_edge true (Some x) (Some y)) a is (inl same) =
      (let P : Node → Type 0 = λ u. has_node w u ≡ true in subst P same ((has_node_is w x).1 (is_world.ends x y ((has_edge_is w x y).0 is)).0))
  present (one_edge true (Some x) (Some y)) a is (inr same) =
      (let P : Node → Type 0 = λ u. has_node w u ≡ true in subst P same ((has_node_is w y).1 (is_world.ends x y ((has_edge_is w x y).0 is)).1))
  present f a is h = absurd h

  -- no leaf closes a branch whose facts are true
  closes_none : (b : Branch) → AllTrue b → (l : LiftedLeaf) → Closes c b l → ⊥
  closes_none b all (falsity k) h = false_nowhere c w h.0 h.2 (all k h.0 h.1)
  closes_none b all (cycle k ks) h = is_world.irreflexive h.0 ((has_edge_is w h.0 h.0).0 (leads b all k ks h.0 h.0 h.1))
  closes_none b all (path k ks denial) h =
      not_true (has_edge w h.0 h.1) (all denial (one_edge false (Some h.0) (Some h.1)) h.3) (leads b all k ks h.0 h.1 h.2)
  closes_none b all (absent denial k) h =
      not_true (has_node w h.0) (all denial (one_node false (Some h.0)) h.2) (present h.1 h.0 (all k h.1 h.3) h.4)

  abbrev SomeTrue : List Branch → Type 0
  SomeTrue [] = ⊥
  SomeTrue (b ∷ opens) = AllTrue b ⊎ SomeTrue opens

  first_ones : (bs cs : List Branch) → SomeTrue bs → SomeTrue (bs ++ cs)
  first_ones [] cs h = elim h [ ]
  first_ones (b ∷ bs) cs (inl h) = inl h
  first_ones (b ∷ bs) cs (inr h) = inr (first_ones bs cs h)

  last_ones : (bs cs : List Branch) → SomeTrue cs → SomeTrue (bs ++ cs)
  last_ones [] cs h = h
  last_ones (b ∷ bs) cs h = inr (last_ones bs cs h)

  -- a step at a true branch leaves a true one
  step_true : (s : LiftedStep) (b : Branch) (next : List Branch) → StepsTo c s b next → AllTrue b → SomeTrue next
  step_true (derive way k) b next h all =
      let g = h.0 in let f = h.1.0 in
      subst SomeTrue (sym h.2) (inl (with_true b g all (part_true c w way f g h.1.2 (all k f h.1.1))))
  step_true (split k) b next h all =
      let f = h.2.0 in
      subst SomeTrue (sym h.3) (elim (side_true c w f h.0 h.1 h.2.2 (all k f h.2.1)) [
        | inl t ↦ inl (with_true b h.0 all t)
        | inr t ↦ inr (inl (with_true b h.1 all t))
      ])
  step_true (close l) b next h all = absurd (closes_none b all l h.0)

  advance_true : (s : LiftedStep) (opens rest : List Branch) → Advances c s opens rest → SomeTrue opens → SomeTrue rest
  advance_true s [] rest a t = absurd a
  advance_true s (b ∷ opens) rest a (inl all) = subst SomeTrue (sym a.2) (first_ones a.0 opens (step_true s b a.0 a.1 all))
  advance_true s (b ∷ opens) rest a (inr t) = subst SomeTrue (sym a.2) (last_ones a.0 opens t)

  run_true : (ss : List LiftedStep) (opens rest : List Branch) → Runs c ss opens rest → SomeTrue opens → SomeTrue rest
  run_true [] opens rest r t = subst SomeTrue r t
  run_true (s ∷ ss) opens rest r t = run_true ss r.0 rest r.2 (advance_true s opens r.0 r.1 t)

  -- the axioms are true at the root
  root_true : (axioms : List PlainClosed) → closed_satisfies axioms c w ≡ true → AllTrue (root axioms)
  root_true axioms is k f at =
      let from = from_map (λ p. said true p [] 0) f axioms (in_at (root axioms) k f at) in
      ap (fact_true c w) (sym from.2) ∙ start_true c w true from.0 [] ∙ all_holds (closed_true c w []) axioms is from.0 from.1

  pub no_world : (axioms : List PlainClosed) (ss : List LiftedStep) → IsLiftedRefutation c axioms ss → IsTrue (closed_satisfies axioms c w) → ⊥
  no_world axioms ss r is = run_true ss (root axioms ∷ []) [] r (inl (root_true axioms is))
