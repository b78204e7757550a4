-- The flags of what leads to a node, worked out in a topological order, and the columns that are kept.
use Rattle.std.proofs.Common.{◌≡◌, ℕ, zero, suc, ◌+◌, ◌-◌, ◌<◌, ◌≤◌, ◌⊎◌, inl, inr, Bool, true, false, List, [], ◌∷◌, ◌++◌, Some, length, set, take, get_or, slice_get, refl, sym, ◌∙◌, ap, subst, arith}
use Rattle.std.proofs.lemmas.{Bool.{cases_eq}, List.{get_or-set_same, get_or-set_other, length-set, take_all}, Option.{slice_get_read, get_or_from_slice_get}}
use Rattle.std.{proofs.lemmas.Grind.{get_or_default_zero}, specs.{Prelude.{◌↔◌, slice_index}, Global.{Vec}}}
use Rattle.pc_common.{specs.Chain.{Leads, Chain, Acyclic}, proofs.{Elements.{In}, Bools.{not_both}, Places.{slice_get-more, get_last, one_item}}}
use Rattle.graph_check.specs.{Arcs.{Arcs, Joins}, Searches.{IsTopological}, Columns.{is_set, IsColumn, AreColumns}, declared.columns.Columns.{Columns}}

-- a chain is one edge, or an edge and a chain
first_step : (v : Arcs) (a b : ℕ) → Chain (Joins v) a b → (c : ℕ) × Joins v a c × ((c ≡ b) ⊎ Chain (Joins v) c b)
first_step v a b ([], l) = (b, l, inl refl)
first_step v a b (x ∷ xs, l) = (x, l.0, inr (xs, l.1))

with_step : (v : Arcs) (a b c : ℕ) → Joins v a c → (c ≡ b) ⊎ Chain (Joins v) c b → Chain (Joins v) a b
with_step v a b c joins (inl e) = (let P : ℕ → Type 0 = λ n. Chain (Joins v) a n in subst P e ([], joins))
with_step v a b c joins (inr chain) = (c ∷ chain.0, (joins, chain.1))

-- what is among the first k + 1 is among the first k, or is the next
first_more : (xs : List ℕ) (k x y : ℕ) → slice_get xs k ≡ Some x → In y (take (k + 1) xs) → In y (take k xs) ⊎ (x ≡ y)
first_more xs k x y at i = go xs k at (let P : ℕ → Type 0 = λ n. In y (take n xs) in subst P (plus_one k) i)
  where
    plus_one : (n : ℕ) → n + 1 ≡ suc n
    plus_one n = omega arith

    go : (xs : List ℕ) (k : ℕ) → slice_get xs k ≡ Some x → In y (take (suc k) xs) → In y (take k xs) ⊎ (x ≡ y)
    go [] k at i = absurd i
    go (z ∷ zs) zero at (inl e) = inr (sym (one_item z x at) ∙ e)
    go (z ∷ zs) zero at (inr i) = absurd i
    go (z ∷ zs) (suc k) at (inl e) = inl (inl e)
    go (z ∷ zs) (suc k) at (inr i) = elim (go zs k at i) [ inl j ↦ inl (inr j) | inr e ↦ inr e ]

-- the flags of the first nodes in order: what is set leads to b, and of the first k all that do are set
pub record AreFlags (v : Arcs) (b : ℕ) (order : List ℕ) (column : List Bool) (k : ℕ) : Type 0 where
  pub sized : length column ≡ length v.heads
  pub sound : (x : ℕ) → is_set column x ≡ true → Chain (Joins v) x b
  pub whole : (x : ℕ) → In x (take k order) → Chain (Joins v) x b → is_set column x ≡ true

module _ (v : Arcs) (b : ℕ) (order : List ℕ) (column : List Bool) (k a : ℕ) (t : IsTopological v order) (at : slice_get order k ≡ Some a)
    (h : AreFlags v b order column k) where
  -- a node leads to b by an edge to it, or to a node whose flag is set
  leads_by : (c : ℕ) → Joins v a c → (c ≡ b) ⊎ (is_set column c ≡ true) → Chain (Joins v) a b
  leads_by c joins how = with_step v a b c joins (elim how [ inl e ↦ inl e | inr set_c ↦ inr (h.sound c set_c) ])

  step_of : Chain (Joins v) a b → (c : ℕ) × Joins v a c × ((c ≡ b) ⊎ (is_set column c ≡ true))
  step_of chain =
      let step = first_step v a b chain in
      (step.0, step.1, elim step.2 [ inl e ↦ inl e | inr rest ↦ inr (h.whole step.0 (t.sorted k a step.0 at step.1) rest) ])

  pub begun_passed : (leads : Bool) → (leads ≡ true) ↔ ((c : ℕ) × Joins v a c × ((c ≡ b) ⊎ (is_set column c ≡ true))) → leads ≡ false
      → AreFlags v b order column (k + 1)
  begun_passed leads is no_lead = record {
    sized = h.sized;
    sound = h.sound;
    whole = λ x i chain. elim (first_more order k a x at i) [
      | inl early ↦ h.whole x early chain
      | inr e ↦ (let P : ℕ → Type 0 = λ n. Chain (Joins v) n b in absurd (not_both leads (is.1 (step_of (subst P (sym e) chain))) no_lead))
    ];
  }

  pub begun_set : (leads : Bool) → (leads ≡ true) ↔ ((c : ℕ) × Joins v a c × ((c ≡ b) ⊎ (is_set column c ≡ true))) → leads ≡ true
      → a < length column → AreFlags v b order (set column a true) (k + 1)
  begun_set leads is leads_on low = record {
    sized = length-set column a true ∙ h.sized;
    sound = λ x set_x. elim (cases_eq x a) [
      | inl same ↦ (let P : ℕ → Type 0 = λ n. Chain (Joins v) n b in let by = is.0 leads_on in subst P (sym same) (leads_by by.0 by.1 by.2))
      | inr other ↦ h.sound x (sym (get_or-set_other column a x true false other) ∙ set_x)
    ];
    whole = λ x i chain. elim (cases_eq x a) [
      | inl same ↦ ap (is_set (set column a true)) same ∙ get_or-set_same column a true false low
      | inr other ↦ get_or-set_other column a x true false other ∙ elim (first_more order k a x at i) [
        | inl early ↦ h.whole x early chain
        | inr e ↦ absurd (other (sym e))
      ]
    ];
  }

pub column_done : (v : Arcs) (b : ℕ) (order : List ℕ) (column : List Bool) (k : ℕ) → IsTopological v order → AreFlags v b order column k → length order ≤ k
    → IsColumn v b column
column_done v b order column k t h past = record {
  sized = h.sized;
  flags = λ x low. (
    h.sound x,
    (λ chain. (let P : List ℕ → Type 0 = λ xs. In x xs in h.whole x (subst P (sym (take_all k order past)) (t.all x low)) chain)),
  );
}

-- a flag of a column
pub flag_leads : (v : Arcs) (b a : ℕ) (column : List Bool) (flag : Bool) → IsColumn v b column → a < length v.heads → flag ≡ is_set column a
    → (flag ≡ true) ↔ Chain (Joins v) a b
flag_leads v b a column flag is low e = ((λ f. (is.flags a low).0 (sym e ∙ f)), (λ chain. e ∙ (is.flags a low).1 chain))

-- a listed edge
pub joins_leads : (v : Arcs) (a b : ℕ) → Joins v a b → (true ≡ true) ↔ Chain (Joins v) a b
joins_leads v a b joins = ((λ e. ([], joins)), (λ chain. refl))

-- the column that a slot tells of
pub column_at : (v : Arcs) (c : Columns) (b slot : ℕ) → AreColumns v c → b < length v.heads → 0 < slot → slot ≡ get_or c.slots.items b slot
    → (column : Vec Bool) × (slice_get c.columns.items (slot - 1) ≡ Some column) × IsColumn v b column.items
column_at v c b slot h low some is =
    let same = h.sized in
    let zero_read = get_or_default_zero c.slots.items b slot (omega (arith, same, low)) in
    h.known b (slot - 1) (sym zero_read ∙ sym is ∙ suc_of slot some)
  where
    suc_of : (n : ℕ) → 0 < n → n ≡ suc (n - 1)
    suc_of n some = omega (arith, some)

pub column_found : (v : Arcs) (c : Columns) (b slot : ℕ) → AreColumns v c → b < length v.heads → 0 < slot → slot ≡ get_or c.slots.items b slot
    → (found : Vec Bool) → found ≡ get_or c.columns.items (slot - 1) found → IsColumn v b found.items
column_found v c b slot h low some is found at =
    let column = column_at v c b slot h low some is in
    let P : Vec Bool → Type 0 = λ u. IsColumn v b u.items in
    let same : column.0 ≡ found = sym (get_or_from_slice_get c.columns.items (slot - 1) column.0 found column.1) ∙ sym at in
    subst P same column.2

-- with one column more
pub columns_more : (v : Arcs) (c d : Columns) (b : ℕ) (column : Vec Bool) → AreColumns v c → b < length v.heads → IsColumn v b column.items
    → d.slots.items ≡ set c.slots.items b (length c.columns.items + 1) → d.columns.items ≡ c.columns.items ++ column ∷ [] → AreColumns v d
columns_more v c d b column h low is slots columns = record {
  sized = ap length slots ∙ length-set c.slots.items b (length c.columns.items + 1) ∙ h.sized;
  known = λ x k e. elim (cases_eq x b) [
    | inl same ↦ (column, new_slot x k same e, (let P : ℕ → Type 0 = λ n. IsColumn v n column.items in subst P (sym same) is))
    | inr other ↦ (let old = h.known x k (sym (get_or-set_other c.slots.items b x (length c.columns.items + 1) 0 other)
        ∙ sym (ap (λ xs. slice_index xs x) slots) ∙ e) in
        (old.0, ap (λ xs. slice_get xs k) columns ∙ slice_get-more c.columns.items (column ∷ []) k old.0 old.1, old.2))
  ];
}
  where
    inside : b < length c.slots.items
    inside = (let same = h.sized in omega (arith, same, low))

    new_slot : (x k : ℕ) → x ≡ b → slice_index d.slots.items x ≡ suc k → slice_get d.columns.items k ≡ Some column
    new_slot x k same e =
        let slot : slice_index d.slots.items x ≡ length c.columns.items + 1 =
        ap (λ xs. slice_index xs x) slots ∙ ap (slice_index (set c.slots.items b (length c.columns.items + 1))) same
        ∙ get_or-set_same c.slots.items b (length c.columns.items + 1) 0 inside in
        let last : k ≡ length c.columns.items = omega (arith, slot, e) in
        ap (slice_get d.columns.items) last ∙ ap (λ xs. slice_get xs (length c.columns.items)) columns ∙ get_last c.columns.items column

-- with the same columns
pub columns_same : (v : Arcs) (c d : Columns) → AreColumns v c → d.slots.items ≡ c.slots.items → d.columns.items ≡ c.columns.items → AreColumns v d
columns_same v c d h slots columns = record {
  sized = ap length slots ∙ h.sized;
  known = λ b k e. (let old = h.known b k (ap (λ xs. slice_index xs b) (sym slots) ∙ e) in (old.0, ap (λ xs. slice_get xs k) columns ∙ old.1, old.2));
}

pub flag_read : (column : List Bool) (a : ℕ) (flag : Bool) → a < length column → flag ≡ get_or column a flag → flag ≡ is_set column a
flag_read column a flag low is = sym (get_or_from_slice_get column a flag false (slice_get_read column (length column) a flag refl low is))

-- in a topological order nothing leads to itself
pub topological_acyclic : (v : Arcs) (order : List ℕ) → IsTopological v order → ((a b : ℕ) → Joins v a b → a < length v.heads) → Acyclic (Joins v)
topological_acyclic v order t within a chain =
    (let place = place_of order a (t.all a (starts chain)) in none (place.0 + 1) place.0 a (omega arith) place.1 chain)
  where
    starts : Chain (Joins v) a a → a < length v.heads
    starts c = (let step = first_step v a a c in within a step.0 step.1)

    place_of : (xs : List ℕ) (x : ℕ) → In x xs → (k : ℕ) × (slice_get xs k ≡ Some x)
    place_of [] x i = absurd i
    place_of (y ∷ ys) x (inl e) = (0, ap Some e)
    place_of (y ∷ ys) x (inr i) = (let r = place_of ys x i in (suc r.0, r.1))

    place_in : (xs : List ℕ) (n x : ℕ) → In x (take n xs) → (k : ℕ) × (k < n) × (slice_get xs k ≡ Some x)
    place_in [] zero x i = absurd i
    place_in [] (suc n) x i = absurd i
    place_in (y ∷ ys) zero x i = absurd i
    place_in (y ∷ ys) (suc n) x (inl e) = (0, omega arith, ap Some e)
    place_in (y ∷ ys) (suc n) x (inr i) = (let r = place_in ys n x i in let low = r.1 in (suc r.0, omega (arith, low), r.2))

    in_more : (xs : List ℕ) (j k x : ℕ) → j ≤ k → In x (take j xs) → In x (take k xs)
    in_more [] zero k x low i = absurd i
    in_more [] (suc j) k x low i = absurd i
    in_more (y ∷ ys) zero k x low i = absurd i
    in_more (y ∷ ys) (suc j) zero x low i = absurd (omega (arith, low))
    in_more (y ∷ ys) (suc j) (suc k) x low (inl e) = inl e
    in_more (y ∷ ys) (suc j) (suc k) x low (inr i) = inr (in_more ys j k x (omega (arith, low)) i)

    -- a chain leads to a node before
    below : (via : List ℕ) (k x y : ℕ) → slice_get order k ≡ Some x → Leads (Joins v) x via y → In y (take k order)
    below [] k x y at l = t.sorted k x y at l
    below (z ∷ zs) k x y at l =
        let r = place_in order k z (t.sorted k x z at l.0) in
        let low = r.1 in
        in_more order r.0 k y (omega (arith, low)) (below zs r.0 z y r.2 l.1)

    none : (n k x : ℕ) → k < n → slice_get order k ≡ Some x → Chain (Joins v) x x → ⊥
    none zero k x low at c = absurd (omega (arith, low))
    none (suc n) k x low at c =
        let r = place_in order k x (below c.0 k x x at c.1) in
        let lower = r.1 in
        none n r.0 x (omega (arith, low, lower)) r.2 c
