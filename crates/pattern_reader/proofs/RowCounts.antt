-- How the number of rows grows with the open values, and where it is too large.
use Rattle.std.proofs.Common.{◌≡◌, ℕ, zero, suc, ◌<◌, ◌≤◌, ◌+◌, ◌*◌, ◌⊎◌, inl, inr, ⊎_elim, List, [], ◌∷◌, ◌++◌, length, take, drop, refl, sym, ◌∙◌, ap, subst, arith}
use Rattle.std.proofs.{lemmas.{List.{take-append-drop, take-take, take_all}, Option.{slice_get_cases}}, Math.Nat.{mul_assoc, le-mul_of_pos_right}}
use Rattle.std.specs.{List.{slice_get}, Prelude.{unwrap_or}}
use Rattle.pc_common.specs.{Case.{Case}, declared.fault.FaultKind.TheVariants.{TooManyRows}}
use Rattle.litmus_reader.specs.declared.fault.CaseFault.{CaseFault, TheVariants.{Content}}
use Rattle.pattern_reader.specs.{Opens.{Open}, Rows.{values_of, rows_of}, Answer.{pattern_with, IsTooMany}, declared.pattern.TheConstants.{MAX_ROWS}}
use Rattle.pattern_reader.proofs.{Digits.{plus_one}, ReadableValues.{values_some}}

pub compare : (a b : ℕ) → (a ≤ b) ⊎ (b < a)
compare zero b = inl (omega arith)
compare (suc a) zero = inr (omega arith)
compare (suc a) (suc b) = ⊎_elim (λ h. inl (omega (arith, h))) (λ h. inr (omega (arith, h))) (compare a b)

module _ (c : Case) where
  abbrev pub rows_with : List Open → ℕ
  rows_with opens = rows_of (pattern_with c opens)

  rows_some : (opens : List Open) → 0 < rows_with opens
  rows_some [] = omega arith
  rows_some (o ∷ opens) =
      let some = values_some c o.op in
      let rest = rows_some opens in
      let most = le-mul_of_pos_right (length (values_of c o.op)) rest in
      omega (arith, some, most)

  rows_append : (xs ys : List Open) → rows_with (xs ++ ys) ≡ rows_with xs * rows_with ys
  rows_append [] ys = omega arith
  rows_append (x ∷ xs) ys =
      ap (λ n. length (values_of c x.op) * n) (rows_append xs ys) ∙ sym (mul_assoc (length (values_of c x.op)) (rows_with xs) (rows_with ys))

  -- fewer open values give no more rows
  rows_front : (i : ℕ) (opens : List Open) → rows_with (take i opens) ≤ rows_with opens
  rows_front i opens =
      let whole : rows_with opens ≡ rows_with (take i opens) * rows_with (drop i opens) =
      ap rows_with (sym (take-append-drop i opens)) ∙ rows_append (take i opens) (drop i opens) in
      let most = le-mul_of_pos_right (rows_with (take i opens)) (rows_some (drop i opens)) in
      omega (arith, whole, most)

  rows_fewer : (i j : ℕ) (opens : List Open) → i ≤ j → rows_with (take i opens) ≤ rows_with (take j opens)
  rows_fewer i j opens le = subst (λ os. rows_with os ≤ rows_with (take j opens)) (take-take i j opens le) (rows_front i (take j opens))

  pub too_many_above : (opens : List Open) (fault : CaseFault) → IsTooMany c opens fault → rows_with opens ≤ MAX_ROWS → ⊥
  too_many_above opens fault is few = let most = rows_front (is.k + 1) opens in let many = is.many in absurd (omega (arith, most, many, few))

  same_k : (opens : List Open) (e f : CaseFault) (x : IsTooMany c opens e) (y : IsTooMany c opens f) → x.k ≤ y.k
  same_k opens e f x y = ⊎_elim (λ h. h) (λ above.
      let more = rows_fewer (y.k + 1) x.k opens (omega (arith, above)) in
      let many = y.many in
      let few = x.few in
      absurd (omega (arith, more, many, few))) (compare x.k y.k)

  pub too_many_once : (opens : List Open) (e f : CaseFault) → IsTooMany c opens e → IsTooMany c opens f → e ≡ f
  too_many_once opens e f x y =
      let up = same_k opens e f x y in
      let down = same_k opens f e y x in
      let same : x.k ≡ y.k = omega (arith, up, down) in
      let place : x.place.offset ≡ y.place.offset =
      x.at ∙ ap (λ (o : Open). o.at) (ap (λ o. unwrap_or o x.any) (sym x.here ∙ ap (slice_get opens) same ∙ y.here)) ∙ sym y.at in
      x.is ∙ ap (λ n. Content (TooManyRows MAX_ROWS) (record { offset = n })) place ∙ sym y.is

  -- where there are too many rows, there is the first open value by which there are
  pub first_above : (n : ℕ) (opens : List Open) → MAX_ROWS < rows_with (take n opens) → (f : CaseFault) × IsTooMany c opens f
  first_above zero opens many = absurd (omega (arith, many))
  first_above (suc n) opens many = ⊎_elim
      (λ few. ⊎_elim
      (λ (o, within, here, same). (
        Content (TooManyRows MAX_ROWS) (record { offset = o.at }),
        record {
          k = n;
          any = o;
          here = here;
          few = few;
          many = subst (λ j. MAX_ROWS < rows_with (take j opens)) (sym (plus_one n)) many;
          place = record { offset = o.at };
          at = refl;
          is = refl;
        },
      ))
      (λ (past, none).
      let same : take (suc n) opens ≡ take n opens = take_all (suc n) opens (omega (arith, past)) ∙ sym (take_all n opens past) in
      let rows = ap rows_with same in
      absurd (omega (arith, rows, few, many)))
      (slice_get_cases opens n).1)
      (λ above. first_above n opens above)
      (compare (rows_with (take n opens)) MAX_ROWS)
