-- The rows are all combinations, each once, in order.
use Rattle.std.proofs.Common.{◌≡◌, ℕ, ◌<◌, ◌≤◌, ◌+◌, ◌*◌, ◌/◌, ◌%◌, ◌⊎◌, inl, inr, ⊎_elim, List, [], ◌∷◌, Some, length, get_or, refl, sym, ◌∙◌, ap, subst, subst₂, arith, add-mul, mul_assoc, mul_comm, mul-pos, mul-le-mul_right, mod-eq_of_lt, le_antisymm, div-one}
use Rattle.std.proofs.lemmas.Option.{slice_get-get_or, slice_get_within, get_or_from_slice_get}
use Rattle.std.proofs.lemmas.Nat.{div-mul-add, mul-add-lt, div_below, mod_below, div-add-mod'}
use Rattle.std.{proofs.Math.Nat.{div-div-eq-div-mul, mul-add-div_right, mul-add-mod_self_right}, specs.Prelude.{⊤}}
use Rattle.pc_common.specs.Case.{Value, number, Case}
use Rattle.pattern_reader.specs.Rows.{Pattern, choices_of, combinations, left_by, row_values}
use Rattle.pattern_reader.specs.Combinations.{IsEachOnce, AreChosen, IsBefore, earlier, alike, choices_in, HasRowsOfValues, HasEachCombination, HasEachRowOnce, HasRowsInOrder}
use Rattle.pattern_reader.proofs.{ReadableValues.{values_some}, EachOnce.{each_value_once}, RowCounts.{compare}}

-- each list has a value
abbrev HaveSome : List (List Value) → Type 0
HaveSome [] = ⊤
HaveSome (c ∷ cs) = (1 ≤ length c) × HaveSome cs

choices_some : (c : Case) (opens : List ℕ) → HaveSome (choices_of c opens)
choices_some c [] = tt
choices_some c (o ∷ os) = (values_some c o, choices_some c os)

-- and no value twice
abbrev HaveEach : List (List Value) → Type 0
HaveEach [] = ⊤
HaveEach (c ∷ cs) = IsEachOnce c × HaveEach cs

choices_each : (c : Case) (opens : List ℕ) → HaveEach (choices_of c opens)
choices_each c [] = tt
choices_each c (o ∷ os) = (each_value_once c o, choices_each c os)

some_rows : (cs : List (List Value)) → HaveSome cs → 0 < combinations cs
some_rows [] s = omega arith
some_rows (c ∷ cs) s = mul-pos {m = length c} {n = combinations cs} (let h = s.0 in omega (arith, h)) (some_rows cs s.1)

left_is : (cs : List (List Value)) (row : ℕ) → left_by cs row ≡ row / combinations cs
left_is [] row = sym (div-one row)
left_is (c ∷ cs) row =
    ap (λ n. n / length c) (left_is cs row) ∙ div-div-eq-div-mul row (combinations cs) (length c)
    ∙ ap (λ n. row / n) (mul_comm (combinations cs) (length c))

-- whole rounds change nothing
rounds : (cs : List (List Value)) → HaveSome cs → (q r : ℕ) → row_values cs (q * combinations cs + r) ≡ row_values cs r
rounds [] s q r = refl
rounds (c ∷ cs) s q r =
    let n = length c in
    let w = combinations cs in
    let row : q * (n * w) + r ≡ (q * n) * w + r = ap (λ m. m + r) (sym (mul_assoc q n w)) in
    let left : left_by cs (q * (n * w) + r) ≡ q * n + left_by cs r =
    ap (left_by cs) row ∙ left_is cs ((q * n) * w + r) ∙ mul-add-div_right (some_rows cs s.1) (q * n) r ∙ ap (λ m. q * n + m) (sym (left_is cs r)) in
    let digit : left_by cs (q * (n * w) + r) % n ≡ left_by cs r % n = ap (λ m. m % n) left ∙ mul-add-mod_self_right q n (left_by cs r) in
    ap (λ m. get_or c m (number 0) ∷ row_values cs (q * (n * w) + r)) digit
    ∙ ap (λ vs. get_or c (left_by cs r % n) (number 0) ∷ vs) (ap (row_values cs) row ∙ rounds cs s.1 (q * n) r)

-- all but the first value, by what is left of whole rounds
rest_is : (cs : List (List Value)) → HaveSome cs → (row : ℕ) → row_values cs row ≡ row_values cs (row % combinations cs)
rest_is cs s row =
    ap (row_values cs) (sym (div-add-mod' row (combinations cs))) ∙ rounds cs s (row / combinations cs) (row % combinations cs)

-- the place of the first value
first_is : (c : List Value) (cs : List (List Value)) → HaveSome cs → (row : ℕ) → row < length c * combinations cs
    → left_by cs row % length c ≡ row / combinations cs
first_is c cs s row below =
    ap (λ m. m % length c) (left_is cs row) ∙ mod-eq_of_lt (div_below row (combinations cs) (length c) (some_rows cs s) below)

chosen : (cs : List (List Value)) → HaveSome cs → (row : ℕ) → AreChosen cs (row_values cs row)
chosen [] s row = tt
chosen (c ∷ cs) s row =
    let some : 0 < length c = let h = s.0 in omega (arith, h) in
    let place = left_by cs row % length c in
    ((place, slice_get-get_or c place (number 0) (mod_below (left_by cs row) (length c) some)), chosen cs s.1 row)

each_combination : (cs : List (List Value)) → HaveSome cs → (vs : List Value) → AreChosen cs vs
    → (row : ℕ) × (row < combinations cs) × (row_values cs row ≡ vs)
each_combination [] s [] is = (0, omega arith, refl)
each_combination [] s (v ∷ vs) is = absurd is
each_combination (c ∷ cs) s [] is = absurd is
each_combination (c ∷ cs) s (v ∷ vs) ((i, at), rest) =
    let (r, below, same) = each_combination cs s.1 vs rest in
    let w = combinations cs in
    let within : i < length c = slice_get_within c i v at in
    let all : i * w + r < length c * w = subst (λ n. i * w + r < n) (mul_comm w (length c)) (mul-add-lt i w r (length c) within below) in
    let place : left_by cs (i * w + r) % length c ≡ i = first_is c cs s.1 (i * w + r) all ∙ div-mul-add i w r below in
    let first : get_or c (left_by cs (i * w + r) % length c) (number 0) ≡ v = ap (λ m. get_or c m (number 0)) place
    ∙ get_or_from_slice_get c i v (number 0) at in
    (i * w + r, all, ap (λ x. x ∷ row_values cs (i * w + r)) first ∙ ap (λ xs. v ∷ xs) (rounds cs s.1 i r ∙ same))

digits_before : (w j k : ℕ) → 0 < w → j < k → (j / w < k / w) ⊎ ((j / w ≡ k / w) × (j % w < k % w))
digits_before w j k p before =
    let first = div-add-mod' j w in
    let second = div-add-mod' k w in
    let few = mod_below k w p in
    ⊎_elim
    (λ le. ⊎_elim
    (λ ge.
    let same : j / w ≡ k / w = le_antisymm ge le in
    let whole = ap (λ n. n * w) same in
    inr (same, omega (arith, first, second, before, whole)))
    (λ above.
    let more : (k / w + 1) * w ≤ j / w * w = mul-le-mul_right w (omega (arith, above)) in
    let both = add-mul (k / w) 1 w in
    absurd (omega (arith, first, second, few, before, more, both)))
    (compare (j / w) (k / w)))
    (λ below. inl below)
    (compare (k / w) (j / w))

in_order : (cs : List (List Value)) → HaveSome cs → (j k : ℕ) → j < k → k < combinations cs → IsBefore cs (row_values cs j) (row_values cs k)
in_order [] s j k before below = absurd (omega (arith, before, below))
in_order (c ∷ cs) s j k before below =
    let w = combinations cs in
    let p = some_rows cs s.1 in
    let early : j < length c * w = omega (arith, before, below) in
    let first = first_is c cs s.1 j early in
    let second = first_is c cs s.1 k below in
    let v = get_or c (left_by cs j % length c) (number 0) in
    let x = get_or c (left_by cs k % length c) (number 0) in
    ⊎_elim
    (λ lt.
    earlier (j / w) (k / w) lt
    (slice_get-get_or c (j / w) (number 0) (div_below j w (length c) p early) ∙ ap (λ m. Some (get_or c m (number 0))) (sym first))
    (slice_get-get_or c (k / w) (number 0) (div_below k w (length c) p below) ∙ ap (λ m. Some (get_or c m (number 0))) (sym second)))
    (λ (same, lt).
    let heads : v ≡ x = ap (λ m. get_or c m (number 0)) (first ∙ same ∙ sym second) in
    let tails : IsBefore cs (row_values cs j) (row_values cs k) =
    subst₂ (IsBefore cs) (sym (rest_is cs s.1 j)) (sym (rest_is cs s.1 k)) (in_order cs s.1 (j % w) (k % w) lt (mod_below k w p)) in
    subst (λ y. IsBefore (c ∷ cs) (v ∷ row_values cs j) (y ∷ row_values cs k)) heads (alike tails))
    (digits_before w j k p before)

abbrev behind_first : List Value → List Value
behind_first [] = []
behind_first (v ∷ vs) = vs

differ : {cs : List (List Value)} {vs ws : List Value} → HaveEach cs → IsBefore cs vs ws → vs ≡ ws → ⊥
differ each (earlier {v = v} {w = w} i j lt at bt) same =
    let heads : v ≡ w = ap (λ xs. get_or xs 0 v) same in
    let places = each.0 i j v at (bt ∙ ap (λ y. Some y) (sym heads)) in
    absurd (omega (arith, places, lt))
differ each (alike before) same = differ each.1 before (ap behind_first same)

module _ (p : Pattern) where
  some : HaveSome (choices_in p)
  some = choices_some p.case p.opens

  pub rows_of_values : HasRowsOfValues p
  rows_of_values row below = chosen (choices_in p) some row

  pub all_combinations : HasEachCombination p
  all_combinations vs is = each_combination (choices_in p) some vs is

  pub rows_in_order : HasRowsInOrder p
  rows_in_order j k before below = in_order (choices_in p) some j k before below

  pub each_row_once : HasEachRowOnce p
  each_row_once j k early late same = ⊎_elim
      (λ le. ⊎_elim
      (λ ge. le_antisymm le ge)
      (λ lt. absurd (differ (choices_each p.case p.opens) (rows_in_order j k lt late) same))
      (compare k j))
      (λ lt. absurd (differ (choices_each p.case p.opens) (rows_in_order k j lt early) (sym same)))
      (compare j k)
