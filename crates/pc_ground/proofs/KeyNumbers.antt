-- The keys of a numbering: in which order they stand, and how many they can be.
use Rattle.std.proofs.Common.{◌≡◌, ℕ, zero, suc, ◌+◌, ◌*◌, ◌<◌, ◌≤◌, inl, inr, true, false, ◌&&◌, List, [], ◌∷◌, ◌++◌, Some, None, length, map, refl, sym, ◌∙◌, ap, arith, eqb, nat_eq, nat_lt, eq-eqb, eqb-true, get_or, subst}
use Rattle.std.proofs.lemmas.{List.Sums.{fails_before_first, passes_at_first}, Option.{slice_get_within, slice_get-get_or, slice_get-map}}
use Rattle.std.proofs.lemmas.Map.{Keys.{IsDistinct-head, IsDistinct-tail}, Steps.{length-le_from_distinct_below}}
use Rattle.std.{proofs.lemmas.Bool.{ltb-true, ltb-false, and_from, false_from_ne_true}, specs.{Prelude.{slice_get, position}, Option.{option_map}}}
use Rattle.std.specs.List.{list_any, position_or_len, IsDistinct, AllByRecursion}
use Rattle.indexmap.specs.IndexSet.{insert_key}
use Rattle.pc_common.{specs.World.{Node, same_node}, proofs.{Bools.{true_or_false, or_either, not_both}, Nodes.{same_node-true, same_node-self}}}
use Rattle.pc_common.proofs.Places.{map_length}
use Rattle.pc_ground.specs.{declared.node_key.NodeKey.{NodeKey}, Keys.{key_node}, Numbers.{seen, IsNumberOf, AreDistinct}}
use Rattle.pc_ground.proofs.Nodes.{key_eq, key_eq-same, any_key}

map_push : (ks : List NodeKey) (k : NodeKey) → map key_node (ks ++ k ∷ []) ≡ map key_node ks ++ key_node k ∷ []
map_push [] k = refl
map_push (x ∷ xs) k = ap (λ ys. key_node x ∷ ys) (map_push xs k)

pub seen_key : (ks : List NodeKey) (k : NodeKey) → map key_node (insert_key key_eq ks k) ≡ seen (map key_node ks) (key_node k)
seen_key ks k =
    elim (true_or_false (list_any (key_eq k) ks)) [
      | inl h ↦ rw (h, sym (any_key k ks) ∙ h) refl
      | inr h ↦ rw (h, sym (any_key k ks) ∙ h) (map_push ks k)
    ]

abbrev code : NodeKey → ℕ
code k = k.op * 4096 + k.core * 64 + k.stage

code_apart : (a b : NodeKey) → key_eq a b ≡ false → eqb (code a) (code b) ≡ false
code_apart a b e = false_from_ne_true (eqb (code a) (code b)) (λ h. not_both (key_eq a b) (both (eqb-true (code a) (code b) h)) e)
  where
    both : code a ≡ code b → key_eq a b ≡ true
    both same =
        let s : a.stage ≡ b.stage = omega (arith, same, a.in_range.1, a.in_range.2, b.in_range.1, b.in_range.2) in
        let c : a.core ≡ b.core = omega (arith, same, s, a.in_range.1, b.in_range.1) in
        let o : a.op ≡ b.op = omega (arith, same, s, c) in
        and_from (nat_eq a.op b.op) (nat_eq a.core b.core && nat_eq a.stage b.stage) (eq-eqb a.op b.op o)
        (and_from (nat_eq a.core b.core) (nat_eq a.stage b.stage) (eq-eqb a.core b.core c) (eq-eqb a.stage b.stage s))

all_apart : (k : NodeKey) (ks : List NodeKey) → AllByRecursion (λ y. key_eq k y ≡ false) ks → AllByRecursion (λ y. eqb (code k) y ≡ false) (map code ks)
all_apart k [] h = h
all_apart k (x ∷ xs) h = (code_apart k x h.0, all_apart k xs h.1)

codes_distinct : (ks : List NodeKey) → IsDistinct key_eq ks → IsDistinct eqb (map code ks)
unfolding IsDistinct
codes_distinct [] h = h
codes_distinct (k ∷ ks) h = (all_apart k ks h.0, codes_distinct ks h.1)

code_below : (ks : List NodeKey) (q : ℕ) → list_any (eqb q) (map code ks) ≡ true → q < 262144
code_below [] q h = cc
code_below (k ∷ ks) q h =
    elim (or_either (eqb q (code k)) (list_any (eqb q) (map code ks)) h) [
      | inl e ↦ (let is = eqb-true q (code k) e in omega (arith, k.in_range.0, k.in_range.1, k.in_range.2))
      | inr e ↦ code_below ks q e
    ]

pub few_keys : (ks : List NodeKey) → IsDistinct key_eq ks → length ks ≤ 262144
few_keys ks h =
    let bound = length-le_from_distinct_below (map code ks) 262144 (codes_distinct ks h) (code_below ks) in
    omega (arith, bound, map_length code ks)

pub few_nodes : (ks : List NodeKey) → IsDistinct key_eq ks → length (map key_node ks) ≤ 262144
few_nodes ks h = omega (arith, few_keys ks h, map_length key_node ks)

not_later : (x : NodeKey) (ks : List NodeKey) (k : ℕ) (a : Node) → AllByRecursion (λ y. key_eq x y ≡ false) ks → a ≡ key_node x
    → slice_get (map key_node ks) k ≡ Some a → ⊥
not_later x [] k a h is e = cc
not_later x (y ∷ ys) zero a h is e =
    let same : key_node x ≡ key_node y = cc in
    not_both (key_eq x y) (key_eq-same x y ∙ ap (λ b. same_node (key_node x) b) (sym same) ∙ same_node-self (key_node x)) h.0
not_later x (y ∷ ys) (suc k) a h is e = not_later x ys k a h.1 is e

pub distinct_nodes : (ks : List NodeKey) → IsDistinct key_eq ks → AreDistinct (map key_node ks)
distinct_nodes [] h j k a e f = cc
distinct_nodes (x ∷ xs) h zero zero a e f = refl
distinct_nodes (x ∷ xs) h zero (suc k) a e f =
    let is : a ≡ key_node x = cc in
    absurd (not_later x xs k a (IsDistinct-head key_eq x xs h) is f)
distinct_nodes (x ∷ xs) h (suc j) zero a e f =
    let is : a ≡ key_node x = cc in
    absurd (not_later x xs j a (IsDistinct-head key_eq x xs h) is e)
distinct_nodes (x ∷ xs) h (suc j) (suc k) a e f = ap suc (distinct_nodes xs (IsDistinct-tail key_eq x xs h) j k a e f)

-- the place of a key among the keys is its node's number
placed_at : (a : NodeKey) (ks : List NodeKey) (k : ℕ) → k < length ks → key_eq a (get_or ks k a) ≡ true → IsNumberOf (map key_node ks) k (key_node a)
placed_at a ks k inside passes =
    let same : key_node (get_or ks k a) ≡ key_node a = sym
    (same_node-true (key_node a) (key_node (get_or ks k a)) (sym (key_eq-same a (get_or ks k a)) ∙ passes)) in
    slice_get-map key_node ks k ∙ ap (option_map key_node) (slice_get-get_or ks k a inside) ∙ ap Some same

absent : (a : NodeKey) (ks : List NodeKey) (n : ℕ) → n ≡ position_or_len (key_eq a) ks → length ks ≤ n
    → (k : ℕ) → IsNumberOf (map key_node ks) k (key_node a) → ⊥
absent a ks n first past k at =
    let inside : k < length ks = omega (arith, slice_get_within (map key_node ks) k (key_node a) at, map_length key_node ks) in
    let here : Some (key_node (get_or ks k a)) ≡ Some (key_node a) = sym
    (slice_get-map key_node ks k ∙ ap (option_map key_node) (slice_get-get_or ks k a inside)) ∙ at in
    let same : key_node (get_or ks k a) ≡ key_node a = cc in
    not_both (key_eq a (get_or ks k a)) (key_eq-same a (get_or ks k a) ∙ ap (λ b. same_node (key_node a) b) same ∙ same_node-self (key_node a))
    (fails_before_first (key_eq a) ks k a (omega arith))

pub placed_some : (a : NodeKey) (ks : List NodeKey) (i : ℕ) → Some i ≡ position (key_eq a) ks → IsNumberOf (map key_node ks) i (key_node a)
placed_some a ks i e =
    elim (true_or_false (nat_lt (position_or_len (key_eq a) ks) (length ks))) [
      | inl h ↦ (let at : Some i ≡ Some (position_or_len (key_eq a) ks) = e ∙ rw h refl in
          let is : position_or_len (key_eq a) ks ≡ i = cc in
          let inside : position_or_len (key_eq a) ks < length ks = ltb-true (position_or_len (key_eq a) ks) (length ks) h in
          let P : ℕ → Type 0 = λ k. IsNumberOf (map key_node ks) k (key_node a) in
          subst P is (placed_at a ks (position_or_len (key_eq a) ks) inside (passes_at_first (key_eq a) ks a inside)))
      | inr h ↦ (let at : Some i ≡ None = e ∙ rw h refl in cc)
    ]

pub placed_none : (a : NodeKey) (ks : List NodeKey) → None ≡ position (key_eq a) ks → (k : ℕ) → IsNumberOf (map key_node ks) k (key_node a) → ⊥
placed_none a ks e =
    elim (true_or_false (nat_lt (position_or_len (key_eq a) ks) (length ks))) [
      | inl h ↦ (let at : None ≡ Some (position_or_len (key_eq a) ks) = e ∙ rw h refl in cc)
      | inr h ↦ absent a ks (position_or_len (key_eq a) ks) refl (ltb-false (position_or_len (key_eq a) ks) (length ks) h)
    ]
