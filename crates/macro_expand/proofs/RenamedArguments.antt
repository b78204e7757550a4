-- A predicate's arguments are renamed one after another.
use Rattle.std.proofs.Common.{◌≡◌, ℕ, ◌+◌, List, [], ◌∷◌, ◌++◌, take, slice_get, Some, zero, suc, refl, ap, ◌∙◌, arith}
use Rattle.pc_common.proofs.Places.{take-next}
use Rattle.pc_syntax.specs.{declared.{term.Arg.{Arg}, pred.Takes.{Takes}}, Renaming.{Renaming, renamed_taken, renamed_args}}
use Rattle.macro_expand.specs.Arguments.{renamed_at}

module _ (ρ : Renaming) where
  none_renamed : (ts : List Takes) → renamed_args ρ ts [] ≡ []
  none_renamed [] = refl
  none_renamed (t ∷ ts) = refl

  next_renamed : (ts : List Takes) (as_ : List Arg) (k : ℕ) (a : Arg) → slice_get as_ k ≡ Some a
      → renamed_args ρ ts (take (suc k) as_) ≡ renamed_args ρ ts (take k as_) ++ renamed_at ρ ts k a ∷ []
  unfolding renamed_at
  next_renamed [] as_ k a e = take-next as_ k a e
  next_renamed (t ∷ ts) [] k a e = cc
  next_renamed (t ∷ ts) (b ∷ as_) zero a e =
      ap (λ zs. renamed_taken ρ t b ∷ zs) (none_renamed ts)
      ∙ ap (λ z. renamed_taken ρ t z ∷ []) (let same : Some b ≡ Some a = e in cc)
  next_renamed (t ∷ ts) (b ∷ as_) (suc k) a e = ap (λ zs. renamed_taken ρ t b ∷ zs) (next_renamed ts as_ k a e)

  pub one_more_renamed : (ts : List Takes) (as_ : List Arg) (k : ℕ) (a : Arg) → slice_get as_ k ≡ Some a
      → renamed_args ρ ts (take (k + 1) as_) ≡ renamed_args ρ ts (take k as_) ++ renamed_at ρ ts k a ∷ []
  one_more_renamed ts as_ k a e =
      let next : k + 1 ≡ suc k = omega arith in
      ap (λ n. renamed_args ρ ts (take n as_)) next ∙ next_renamed ts as_ k a e
