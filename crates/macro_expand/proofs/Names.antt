-- Names that are compared in either order.
use Rattle.std.proofs.{Common.{◌≡◌, ℕ, Bool, true, false, List, refl, sym, ◌∙◌, true≢false}, lemmas.Slice.Eq.{bytes_eq-Decides}}
use Rattle.pc_common.specs.Names.{same_name}

pub same_is : (a b : List ℕ) → same_name a b ≡ true → a ≡ b
same_is a b e = (bytes_eq-Decides a b).0 e

pub is_same : (a b : List ℕ) → a ≡ b → same_name a b ≡ true
is_same a b e = (bytes_eq-Decides a b).1 e

pub same_either : (a b : List ℕ) → same_name a b ≡ same_name b a
same_either a b = by (same_name a b) (same_name b a) refl refl
  where
    by : (s t : Bool) → same_name a b ≡ s → same_name b a ≡ t → s ≡ t
    by true true e f = refl
    by true false e f = absurd (true≢false (sym (is_same b a (sym (same_is a b e))) ∙ f))
    by false true e f = absurd (true≢false (sym (is_same a b (sym (same_is b a f))) ∙ e))
    by false false e f = refl
