-- What an open read may read stands once among its values.
use Rattle.std.proofs.Common.{◌≡◌, ℕ, zero, suc, ◌⊎◌, inl, inr, ⊎_elim, Bool, true, false, cond, List, [], ◌∷◌, ◌++◌, Option, Some, None, length, refl, sym, ◌∙◌, ap, subst, eq-eqb}
use Rattle.std.{proofs.lemmas.Bool.{true≢false, or_left, or_right}, specs.{Prelude.{unwrap_or}, List.{fold, list_any, slice_get}}}
use Rattle.pc_common.specs.{Case.{Address, Value, number, entry, Touch, MicroOp, Case}, Addresses.{same_value, initial_at}}
use Rattle.pattern_reader.specs.{Rows.{written_at, once_more, values_touched, touch_of_op, values_of, choices_of}, Combinations.{IsEachOnce}}
use Rattle.pattern_reader.proofs.ReadableValues.{add_written}

same_self : (v : Value) → same_value v v ≡ true
same_self (number n) = eq-eqb n n refl
same_self (entry e) = rw (eq-eqb e.tag e.tag refl, eq-eqb e.accessed e.accessed refl, eq-eqb e.dirty e.dirty refl) refl

none_past : {X : Type 0} (i : ℕ) (x : X) → slice_get {X = X} [] i ≡ Some x → ⊥
none_past i x at = cc

-- a value that stands in a list is found there
any_here : (vs : List Value) (i : ℕ) (v : Value) → slice_get vs i ≡ Some v → list_any (same_value v) vs ≡ true
any_here [] i v at = absurd (none_past i v at)
any_here (w ∷ vs) zero v at =
    or_left (same_value v w) (list_any (same_value v) vs) (ap (λ o. same_value v (unwrap_or o v)) at ∙ same_self v)
any_here (w ∷ vs) (suc i) v at = or_right (same_value v w) (list_any (same_value v) vs) (any_here vs i v at)

-- what stands in a list with one value more
last_or : (vs : List Value) (v x : Value) (i : ℕ) → slice_get (vs ++ v ∷ []) i ≡ Some x
    → (slice_get vs i ≡ Some x) ⊎ ((i ≡ length vs) × (v ≡ x))
last_or [] v x zero at = inr (refl, ap (λ o. unwrap_or o x) at)
last_or [] v x (suc i) at = absurd (none_past i x at)
last_or (w ∷ vs) v x zero at = inl at
last_or (w ∷ vs) v x (suc i) at = ⊎_elim (λ e. inl e) (λ (place, same). inr (ap suc place, same)) (last_or vs v x i at)

-- a value that is not found stands nowhere
stands_nowhere : (vs : List Value) (v x : Value) (i : ℕ) → list_any (same_value v) vs ≡ false → slice_get vs i ≡ Some x → v ≡ x → ⊥
stands_nowhere vs v x i unfound at same =
    true≢false (sym (any_here vs i v (at ∙ ap (λ y. Some y) (sym same))) ∙ unfound)

each_more : (vs : List Value) (v : Value) → IsEachOnce vs → list_any (same_value v) vs ≡ false → IsEachOnce (vs ++ v ∷ [])
each_more vs v each unfound i j x at bt = ⊎_elim
    (λ early. ⊎_elim
    (λ late. each i j x early late)
    (λ (place, same). absurd (stands_nowhere vs v x i unfound early same))
    (last_or vs v x j bt))
    (λ (place, same). ⊎_elim
    (λ late. absurd (stands_nowhere vs v x j unfound late same))
    (λ (other, alike). place ∙ sym other)
    (last_or vs v x j bt))
    (last_or vs v x i at)

each_cond : (b : Bool) (vs : List Value) (v : Value) → list_any (same_value v) vs ≡ b → IsEachOnce vs → IsEachOnce (cond b vs (vs ++ v ∷ []))
each_cond true vs v found each = each
each_cond false vs v unfound each = each_more vs v each unfound

each_once_more : (vs : List Value) (v : Option Value) → IsEachOnce vs → IsEachOnce (once_more vs v)
each_once_more vs None each = each
each_once_more vs (Some v) each = each_cond (list_any (same_value v) vs) vs v refl each

each_written : (pa : Address) (ops : List MicroOp) (vs : List Value) → IsEachOnce vs → IsEachOnce (fold (add_written pa) vs ops)
each_written pa [] vs each = each
each_written pa (o ∷ ops) vs each = each_written pa ops (add_written pa vs o) (each_once_more vs (written_at pa o.kind o.touch) each)

each_alone : (v : Value) → IsEachOnce (v ∷ [])
each_alone v zero zero x at bt = refl
each_alone v zero (suc j) x at bt = absurd (none_past j x bt)
each_alone v (suc i) j x at bt = absurd (none_past i x at)

each_touched : (c : Case) (t : Option Touch) → IsEachOnce (values_touched c t)
each_touched c None = each_alone (number 0)
each_touched c (Some t) = each_written t.pa c.ops (initial_at c t.pa ∷ []) (each_alone (initial_at c t.pa))

pub each_value_once : (c : Case) (k : ℕ) → IsEachOnce (values_of c k)
each_value_once c k = each_touched c (touch_of_op (slice_get c.ops k))

pub each_choice_once : (c : Case) (opens : List ℕ) (k : ℕ) (vs : List Value) → slice_get (choices_of c opens) k ≡ Some vs → IsEachOnce vs
each_choice_once c [] k vs at = absurd (none_past k vs at)
each_choice_once c (o ∷ os) zero vs at = subst IsEachOnce (ap (λ x. unwrap_or x vs) at) (each_value_once c o)
each_choice_once c (o ∷ os) (suc k) vs at = each_choice_once c os k vs at
