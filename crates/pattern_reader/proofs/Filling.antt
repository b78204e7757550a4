-- Micro-ops with other values stay the micro-ops of a case.
use Rattle.std.proofs.Common.{◌≡◌, ℕ, zero, suc, ◌<◌, ◌≤◌, ◌+◌, List, [], ◌∷◌, ◌++◌, Option, Some, None, length, take, refl, sym, ◌∙◌, ap, subst, arith}
use Rattle.std.specs.{Prelude.{IsNone, unwrap_or, ◌↔◌}, List.{slice_get}, Option.{option_map}}
use Rattle.pc_common.specs.{Case.{Value, Touch, fence, MicroOp}, declared.limits.TheConstants.{MAX_CORE, MAX_OPS}}
use Rattle.pc_case.specs.MicroOps.{AreMicroOps}
use Rattle.pattern_reader.{specs.Rows.{reading, filled, touch_reading}, proofs.Digits.{plus_one}}

pub length_filled : (value : ℕ → Option Value) (k : ℕ) (os : List MicroOp) → length (filled value k os) ≡ length os
length_filled value k [] = refl
length_filled value k (o ∷ os) = ap suc (length_filled value (k + 1) os)

-- the micro-op at a place, and the value in it
filled_get : (value : ℕ → Option Value) (k j : ℕ) (os : List MicroOp) (a : MicroOp) → slice_get (filled value k os) j ≡ Some a
    → (o : MicroOp) × (slice_get os j ≡ Some o) × (v : Option Value) × (a ≡ reading v o)
filled_get value k j [] a at = absurd (none_some at)
  where
    none_some : slice_get (filled value k []) j ≡ Some a → ⊥
    none_some e = cc
filled_get value k zero (o ∷ os) a at = (o, refl, value k, sym (ap (λ x. unwrap_or x a) at))
filled_get value k (suc j) (o ∷ os) a at = filled_get value (k + 1) j os a at

same_g : (v : Option Value) (o : MicroOp) → (reading v o).g ≡ o.g
same_g None o = refl
same_g (Some v) o = refl

same_n : (v : Option Value) (o : MicroOp) → (reading v o).n ≡ o.n
same_n None o = refl
same_n (Some v) o = refl

same_core : (v : Option Value) (o : MicroOp) → (reading v o).core ≡ o.core
same_core None o = refl
same_core (Some v) o = refl

none_in : (v : Value) (t : Option Touch) → IsNone (option_map (touch_reading v) t) → IsNone t
none_in v None h = h
none_in v (Some t) h = h

none_out : (v : Value) (t : Option Touch) → IsNone t → IsNone (option_map (touch_reading v) t)
none_out v None h = h
none_out v (Some t) h = h

fence_kept : (v : Option Value) (o : MicroOp) → (o.kind ≡ fence) ↔ IsNone o.touch → ((reading v o).kind ≡ fence) ↔ IsNone (reading v o).touch
fence_kept None o h = h
fence_kept (Some v) o (to, from) = (λ e. none_out v o.touch (to e), λ none. from (none_in v o.touch none))

pub filled_kept : (value : ℕ → Option Value) (os : List MicroOp) → AreMicroOps os → AreMicroOps (filled value 0 os)
filled_kept value os kept = record {
  few = subst (λ n. n ≤ MAX_OPS) (sym (length_filled value 0 os)) kept.few;
  cores = λ k a at.
      let (o, here, v, is) = filled_get value 0 k os a at in
      subst (λ n. n < MAX_CORE + 1) (sym (ap (λ (x : MicroOp). x.core) is ∙ same_core v o)) (kept.cores k o here);
  once = λ j k a b at bt g n.
      let (o, here, v, is) = filled_get value 0 j os a at in
      let (p, there, w, was) = filled_get value 0 k os b bt in
      kept.once j k o p here there
      (sym (ap (λ (x : MicroOp). x.g) is ∙ same_g v o) ∙ g ∙ (ap (λ (x : MicroOp). x.g) was ∙ same_g w p))
      (sym (ap (λ (x : MicroOp). x.n) is ∙ same_n v o) ∙ n ∙ (ap (λ (x : MicroOp). x.n) was ∙ same_n w p));
  fences = λ k a at.
      let (o, here, v, is) = filled_get value 0 k os a at in
      subst (λ (x : MicroOp). (x.kind ≡ fence) ↔ IsNone x.touch) (sym is) (fence_kept v o (kept.fences k o here));
}

filled_from : (value : ℕ → Option Value) (j k : ℕ) (os : List MicroOp) (o : MicroOp) → slice_get os k ≡ Some o
    → filled value j (take (suc k) os) ≡ filled value j (take k os) ++ reading (value (j + k)) o ∷ []
filled_from value j k [] o here = cc
filled_from value j zero (x ∷ os) o here =
    ap (λ y. reading (value j) (unwrap_or y o) ∷ []) here ∙ ap (λ n. reading (value n) o ∷ []) (omega arith)
filled_from value j (suc k) (x ∷ os) o here =
    ap (λ ys. reading (value j) x ∷ ys)
    (filled_from value (j + 1) k os o here ∙ ap (λ n. filled value (j + 1) (take k os) ++ reading (value n) o ∷ []) (omega arith))

-- one micro-op more
pub filled_more : (value : ℕ → Option Value) (k : ℕ) (os : List MicroOp) (o : MicroOp) → slice_get os k ≡ Some o
    → filled value 0 (take (k + 1) os) ≡ filled value 0 (take k os) ++ reading (value k) o ∷ []
filled_more value k os o here =
    ap (λ n. filled value 0 (take n os)) (plus_one k) ∙ filled_from value 0 k os o here
    ∙ ap (λ n. filled value 0 (take k os) ++ reading (value n) o ∷ []) (omega arith)
