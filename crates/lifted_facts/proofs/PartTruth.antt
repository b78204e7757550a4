-- A part of a fact is true where the fact is; so is one of its sides; and a fact that is false is true nowhere.
use Rattle.std.proofs.Common.{◌≡◌, ◌⊎◌, inl, inr, ℕ, ◌+◌, ◌≤◌, Bool, true, false, not, List, [], ◌∷◌, ◌++◌, Option, Some, None, length, map, drop, refl, sym, ◌∙◌, ap, subst}
use Rattle.std.{proofs.lemmas.{Bool.{ltb-false}, List.{drop_all}}, specs.{Prelude.{slice_get, nat_lt}, List.{list_any, list_all}}}
use Rattle.std.specs.Option.{option_map, option_and_then}
use Rattle.pc_common.{specs.{Case.{Case}, World.{Node, World}}, proofs.{Elements.{all_holds}, Bools.{and_first, and_second, or_either}, Places.{in_at}}}
use Rattle.pc_syntax.specs.{declared.{closed_term.{ClosedNode.{ClosedNode}, ClosedEdge.{ClosedEdge}}, term.Sort.{Sort}}, Predicates.{predicate_holds}}
use Rattle.pc_syntax.specs.Truth.{Meaning, node_holds, edge_holds, range_of}
use Rattle.pc_syntax.specs.Closed.{PlainClosed, closed_not, closed_and, closed_or, closed_implies, closed_forall, closed_exists, closed_static, closed_nodes, closed_edges, closed_bind, closed_node, closed_value, closed_argument, closed_true}
use Rattle.static_preds.proofs.Walked.{drop_at}
use Rattle.lifted_facts.specs.{declared.way.Way.{Way, TheVariants.{Left, Right, Not, Bind, Inst, Member}}, PlainFacts.{PlainFact, said, one_node, one_edge}}
use Rattle.lifted_facts.specs.Parts.{number_of_instance, said_at, part_of, or_later, sides, is_false}
use Rattle.lifted_facts.proofs.FactTruth.{under, fact_true, start_true, nor_first, nor_second, nand_either, not_not, not_true, none_passes}

-- what an optional value was made of
pub mapped : {X Y : Type 0} (f : X → Y) (o : Option X) (y : Y) → option_map f o ≡ Some y → (x : X) × (o ≡ Some x) × (f x ≡ y)
mapped f None y e = cc
mapped f (Some x) y e = (x, refl, cc)

pub placed : {X : Type 0} (xs : List X) (place : Option ℕ) (x : X) → option_and_then (slice_get xs) place ≡ Some x
    → (k : ℕ) × (place ≡ Some k) × (slice_get xs k ≡ Some x)
placed xs None x e = cc
placed xs (Some k) x e = (k, refl, e)

abbrev pair : PlainFact → PlainFact → PlainFact × PlainFact
pair f g = (f, g)

module _ (c : Case) (w : World Node) where
  abbrev T : PlainFact → Type 0
  T f = fact_true c w f ≡ true

  -- a part of a formula, with the slots of that formula or others
  came : (plus : Bool) (p : PlainClosed) (slots : List Meaning) (g : PlainFact) → said plus p slots 0 ≡ g
      → under plus (closed_true c w slots p) ≡ true → T g
  came plus p slots g same is = subst T same (start_true c w plus p slots ∙ is)

  -- the body of a quantifier that holds at each value of its range, or at none
  all_at : (sort : Sort) (p : PlainClosed) (slots : List Meaning) (place : Option ℕ) (g : PlainFact) → said_at c true sort p slots place ≡ Some g
      → list_all (λ v. closed_true c w (slots ++ v ∷ []) p) (range_of c sort) ≡ true → T g
  all_at sort p slots place g e is =
      let m = mapped (λ v. said true p (slots ++ v ∷ []) 0) (option_and_then (slice_get (range_of c sort)) place) g e in
      let k = placed (range_of c sort) place m.0 m.1 in
      came true p (slots ++ m.0 ∷ []) g m.2
      (all_holds (λ v. closed_true c w (slots ++ v ∷ []) p) (range_of c sort) is m.0 (in_at (range_of c sort) k.0 m.0 k.2))

  none_at : (sort : Sort) (p : PlainClosed) (slots : List Meaning) (place : Option ℕ) (g : PlainFact) → said_at c false sort p slots place ≡ Some g
      → not (list_any (λ v. closed_true c w (slots ++ v ∷ []) p) (range_of c sort)) ≡ true → T g
  none_at sort p slots place g e is =
      let m = mapped (λ v. said false p (slots ++ v ∷ []) 0) (option_and_then (slice_get (range_of c sort)) place) g e in
      let k = placed (range_of c sort) place m.0 m.1 in
      came false p (slots ++ m.0 ∷ []) g m.2
      (none_passes (λ v. closed_true c w (slots ++ v ∷ []) p) (range_of c sort) is m.0 (in_at (range_of c sort) k.0 m.0 k.2))

  -- a member of a list that holds
  node_at : (ts : List ClosedNode) (slots : List Meaning) (k : ℕ) (g : PlainFact)
      → option_map (λ t. one_node true (closed_node c slots t)) (slice_get ts k) ≡ Some g
      → list_all (λ t. node_holds w (closed_node c slots t)) ts ≡ true → T g
  node_at ts slots k g e is =
      let m = mapped (λ (t : ClosedNode). one_node true (closed_node c slots t)) (slice_get ts k) g e in
      subst T m.2 (all_holds (λ (t : ClosedNode). node_holds w (closed_node c slots t)) ts is m.0 (in_at ts k m.0 m.1))

  edge_at : (ts : List ClosedEdge) (slots : List Meaning) (k : ℕ) (g : PlainFact)
      → option_map (λ t. one_edge true (closed_node c slots t.from) (closed_node c slots t.to)) (slice_get ts k) ≡ Some g
      → list_all (λ t. edge_holds w (closed_node c slots t.from) (closed_node c slots t.to)) ts ≡ true → T g
  edge_at ts slots k g e is =
      let m = mapped (λ (t : ClosedEdge). one_edge true (closed_node c slots t.from) (closed_node c slots t.to)) (slice_get ts k) g e in
      subst T m.2 (all_holds (λ (t : ClosedEdge). edge_holds w (closed_node c slots t.from) (closed_node c slots t.to)) ts is m.0 (in_at ts k m.0 m.1))

  pub part_true : (way : Way) (f g : PlainFact) → part_of c way f ≡ Some g → T f → T g
  part_true Left (said true (closed_and p q) slots s) g e t = came true p slots g (cc) (and_first (closed_true c w slots p) (closed_true c w slots q) t)
  part_true Left (said false (closed_or p q) slots s) g e t = came false p slots g (cc) (nor_first (closed_true c w slots p) (closed_true c w slots q) t)
  part_true Left (said false (closed_implies p q) slots s) g e t =
      came true p slots g (cc) (not_not (closed_true c w slots p) (nor_first (not (closed_true c w slots p)) (closed_true c w slots q) t))
  part_true Right (said true (closed_and p q) slots s) g e t = came true q slots g (cc) (and_second (closed_true c w slots p) (closed_true c w slots q) t)
  part_true Right (said false (closed_or p q) slots s) g e t = came false q slots g (cc) (nor_second (closed_true c w slots p) (closed_true c w slots q) t)
  part_true Right (said false (closed_implies p q) slots s) g e t =
      came false q slots g (cc) (nor_second (not (closed_true c w slots p)) (closed_true c w slots q) t)
  part_true Not (said true (closed_not p) slots s) g e t = came false p slots g (cc) t
  part_true Not (said false (closed_not p) slots s) g e t = came true p slots g (cc) (not_not (closed_true c w slots p) t)
  part_true Bind (said true (closed_bind args p) slots s) g e t = came true p (slots ++ map (closed_value slots) args) g (cc) t
  part_true Bind (said false (closed_bind args p) slots s) g e t = came false p (slots ++ map (closed_value slots) args) g (cc) t
  part_true (Inst v) (said true (closed_forall sort p) slots s) g e t = all_at sort p slots (number_of_instance sort v) g e t
  part_true (Inst v) (said false (closed_exists sort p) slots s) g e t = none_at sort p slots (number_of_instance sort v) g e t
  part_true (Member k) (said true (closed_nodes ts) slots s) g e t = node_at ts slots k g e t
  part_true (Member k) (said true (closed_edges ts) slots s) g e t = edge_at ts slots k g e t
  part_true way f g e t = cc

  -- the first and the later ones of a pair that is made so
  both_of : (first : Option PlainFact) (later : PlainFact) (both : PlainFact × PlainFact) → or_later first later ≡ Some both
      → (first ≡ Some both.0) × (later ≡ both.1)
  both_of None later both e = cc
  both_of (Some f) later both e = (let same : pair f later ≡ both = cc in (
    ap (λ (x : PlainFact × PlainFact). Some x.0) same,
    ap
        (λ (x : PlainFact × PlainFact). x.1) same,
  ))

  some_left : {X : Type 0} (p : X → Bool) (xs : List X) (s : ℕ) (x : X) → slice_get xs s ≡ Some x → list_any p (drop s xs) ≡ true
      → (p x ≡ true) ⊎ (list_any p (drop (s + 1) xs) ≡ true)
  some_left p xs s x there is = or_either (p x) (list_any p (drop (s + 1) xs)) (sym (ap (list_any p) (drop_at xs s (s + 1) x there refl)) ∙ is)

  not_all_left : {X : Type 0} (p : X → Bool) (xs : List X) (s : ℕ) (x : X) → slice_get xs s ≡ Some x → not (list_all p (drop s xs)) ≡ true
      → (not (p x) ≡ true) ⊎ (not (list_all p (drop (s + 1) xs)) ≡ true)
  not_all_left p xs s x there is =
      nand_either (p x) (list_all p (drop (s + 1) xs)) (sym (ap (λ ys. not (list_all p ys)) (drop_at xs s (s + 1) x there refl)) ∙ is)

  starts : (plus : Bool) (p : PlainClosed) (slots : List Meaning) → under plus (closed_true c w slots p) ≡ true → T (said plus p slots 0)
  starts plus p slots is = start_true c w plus p slots ∙ is

  -- the two sides of a connective
  two : (plus more : Bool) (p q : PlainClosed) (slots : List Meaning) (both : PlainFact × PlainFact)
      → Some (pair (said plus p slots 0) (said more q slots 0)) ≡ Some both
      → (under plus (closed_true c w slots p) ≡ true) ⊎ (under more (closed_true c w slots q) ≡ true) → T both.0 ⊎ T both.1
  two plus more p q slots both e h = go h
    where
      same : pair (said plus p slots 0) (said more q slots 0) ≡ both
      same = cc

      go : (under plus (closed_true c w slots p) ≡ true) ⊎ (under more (closed_true c w slots q) ≡ true) → T both.0 ⊎ T both.1
      go (inl is) = inl (subst T (ap (λ (x : PlainFact × PlainFact). x.0) same) (starts plus p slots is))
      go (inr is) = inr (subst T (ap (λ (x : PlainFact × PlainFact). x.1) same) (starts more q slots is))

  pub side_true : (f g h : PlainFact) → sides c f ≡ Some (g, h) → T f → T g ⊎ T h
  side_true (said true (closed_or p q) slots s) g h e t = two true true p q slots (g, h) e (or_either (closed_true c w slots p) (closed_true c w slots q) t)
  side_true (said false (closed_and p q) slots s) g h e t = two false false p q slots (g, h) e
      (nand_either (closed_true c w slots p) (closed_true c w slots q) t)
  side_true (said true (closed_implies p q) slots s) g h e t =
      two false true p q slots (g, h) e (or_either (not (closed_true c w slots p)) (closed_true c w slots q) t)
  side_true (said true (closed_exists sort p) slots s) g h e t =
      let b = both_of (said_at c true sort p slots (Some s)) (said true (closed_exists sort p) slots (s + 1)) (g, h) e in
      let m = mapped (λ v. said true p (slots ++ v ∷ []) 0) (slice_get (range_of c sort) s) g b.0 in
      elim (some_left (λ v. closed_true c w (slots ++ v ∷ []) p) (range_of c sort) s m.0 m.1 t) [
        | inl u ↦ inl (came true p (slots ++ m.0 ∷ []) g m.2 u)
        | inr u ↦ inr (subst T b.1 u)
      ]
  side_true (said false (closed_forall sort p) slots s) g h e t =
      let b = both_of (said_at c false sort p slots (Some s)) (said false (closed_forall sort p) slots (s + 1)) (g, h) e in
      let m = mapped (λ v. said false p (slots ++ v ∷ []) 0) (slice_get (range_of c sort) s) g b.0 in
      elim (not_all_left (λ v. closed_true c w (slots ++ v ∷ []) p) (range_of c sort) s m.0 m.1 t) [
        | inl u ↦ inl (came false p (slots ++ m.0 ∷ []) g m.2 u)
        | inr u ↦ inr (subst T b.1 u)
      ]
  side_true (said false (closed_nodes ts) slots s) g h e t =
      let b = both_of (option_map (λ (u : ClosedNode). one_node false (closed_node c slots u)) (slice_get ts s))
      (said false (closed_nodes ts) slots (s + 1)) (g, h) e in
      let m = mapped (λ (u : ClosedNode). one_node false (closed_node c slots u)) (slice_get ts s) g b.0 in
      elim (not_all_left (λ (u : ClosedNode). node_holds w (closed_node c slots u)) ts s m.0 m.1 t) [
        | inl u ↦ inl (subst T m.2 u)
        | inr u ↦ inr (subst T b.1 u)
      ]
  side_true (said false (closed_edges ts) slots s) g h e t =
      let b =
      both_of (option_map (λ (u : ClosedEdge). one_edge false (closed_node c slots u.from) (closed_node c slots u.to)) (slice_get ts s))
      (said false (closed_edges ts) slots (s + 1)) (g, h) e in
      let m = mapped (λ (u : ClosedEdge). one_edge false (closed_node c slots u.from) (closed_node c slots u.to)) (slice_get ts s) g b.0 in
      elim (not_all_left (λ (u : ClosedEdge). edge_holds w (closed_node c slots u.from) (closed_node c slots u.to)) ts s m.0 m.1 t) [
        | inl u ↦ inl (subst T m.2 u)
        | inr u ↦ inr (subst T b.1 u)
      ]
  side_true f g h e t = cc

  past : (s n : ℕ) → not (nat_lt s n) ≡ true → n ≤ s
  past s n e = ltb-false s n (is_no (nat_lt s n) e)
    where
      is_no : (b : Bool) → not b ≡ true → b ≡ false
      is_no true h = cc
      is_no false h = refl

  any_past : {X : Type 0} (p : X → Bool) (xs : List X) (s : ℕ) → not (nat_lt s (length xs)) ≡ true → list_any p (drop s xs) ≡ true → ⊥
  any_past p xs s e t = (let none : list_any p (drop s xs) ≡ false = ap (list_any p) (drop_all s xs (past s (length xs) e)) in cc)

  all_past : {X : Type 0} (p : X → Bool) (xs : List X) (s : ℕ) → not (nat_lt s (length xs)) ≡ true → not (list_all p (drop s xs)) ≡ true → ⊥
  all_past p xs s e t = (let all : list_all p (drop s xs) ≡ true = ap (list_all p) (drop_all s xs (past s (length xs) e)) in not_true
      (list_all p (drop s xs)) t all)

  pub false_nowhere : (f : PlainFact) → is_false c f ≡ true → T f → ⊥
  false_nowhere (said true (closed_exists sort p) slots s) e t = any_past (λ v. closed_true c w (slots ++ v ∷ []) p) (range_of c sort) s e t
  false_nowhere (said false (closed_forall sort p) slots s) e t = all_past (λ v. closed_true c w (slots ++ v ∷ []) p) (range_of c sort) s e t
  false_nowhere (said false (closed_nodes ts) slots s) e t = all_past (λ (u : ClosedNode). node_holds w (closed_node c slots u)) ts s e t
  false_nowhere (said false (closed_edges ts) slots s) e t =
      all_past (λ (u : ClosedEdge). edge_holds w (closed_node c slots u.from) (closed_node c slots u.to)) ts s e t
  false_nowhere (said true (closed_static pred args) slots s) e t = not_true (predicate_holds c pred (map (closed_argument slots) args)) e t
  false_nowhere (said false (closed_static pred args) slots s) e t = not_true (predicate_holds c pred (map (closed_argument slots) args)) t e
  false_nowhere f e t = cc
