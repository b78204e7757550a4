-- Two micro-ops, as those of a test.
use Rattle.std.{proofs.Common.{◌≡◌, ◌<◌, ◌↔◌, ℕ, zero, suc, [], ◌∷◌, Some, refl, sym, ap, ◌∙◌, subst, arith}, specs.Prelude.{slice_get, IsNone}}
use Rattle.pc_common.specs.Case.{MicroOp, fence}
use Rattle.pc_case.specs.MicroOps.{AreMicroOps}

same : {X : Type 0} {x y : X} → Some x ≡ Some y → x ≡ y
same e = cc

-- what holds of both holds at each place
module _ (x y : MicroOp) where
  at_both : (P : MicroOp → Type 0) → P x → P y → (k : ℕ) (o : MicroOp) → slice_get (x ∷ y ∷ []) k ≡ Some o → P o
  at_both P p q zero o e = subst P (same e) p
  at_both P p q (suc zero) o e = subst P (same e) q
  at_both P p q (suc (suc k)) o e = cc

  once : (x.g ≡ y.g → ⊥) → (j k : ℕ) (a b : MicroOp) → slice_get (x ∷ y ∷ []) j ≡ Some a → slice_get (x ∷ y ∷ []) k ≡ Some b → a.g ≡ b.g → j ≡ k
  once other zero zero a b e f g = refl
  once other zero (suc zero) a b e f g = absurd (other (ap (λ o. o.g) (same e) ∙ g ∙ sym (ap (λ o. o.g) (same f))))
  once other zero (suc (suc k)) a b e f g = cc
  once other (suc zero) zero a b e f g = absurd (other (ap (λ o. o.g) (same f) ∙ sym g ∙ sym (ap (λ o. o.g) (same e))))
  once other (suc zero) (suc zero) a b e f g = refl
  once other (suc zero) (suc (suc k)) a b e f g = cc
  once other (suc (suc j)) k a b e f g = cc

  pub two_ops : x.core < 64 → y.core < 64 → (x.g ≡ y.g → ⊥) → ((x.kind ≡ fence) ↔ IsNone x.touch) → ((y.kind ≡ fence) ↔ IsNone y.touch)
      → AreMicroOps (x ∷ y ∷ [])
  two_ops p q other f g = record {
    few = omega arith;
    cores = at_both (λ o. o.core < 64) p q;
    once = λ j k a b e h s _. once other j k a b e h s;
    fences = at_both (λ o. (o.kind ≡ fence) ↔ IsNone o.touch) f g;
  }
