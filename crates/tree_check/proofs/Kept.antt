-- What stays of a list is no longer than it, and is told item by item.
use Rattle.std.proofs.Common.{◌≡◌, ◌≤◌, ℕ, ◌+◌, List, [], ◌∷◌, ◌++◌, Bool, true, false, Some, length, min, take, get_or, slice_get, refl, sym, ◌∙◌, ap, arith}
use Rattle.std.proofs.lemmas.{List.{append-nil, length-take, take_all, take_more}, Option.{slice_get_within, get_or_from_slice_get}}
use Rattle.refutation.specs.Kept.{kept}
use Rattle.tree_check.specs.Subsequences.{IsSubsequence, none, left_out, stays}

pub all_stay : {A : Type 0} (xs : List A) → IsSubsequence xs xs
all_stay [] = none
all_stay (x ∷ xs) = stays x (all_stay xs)

pub kept_within : {A : Type 0} (flags : List Bool) (xs : List A) → IsSubsequence (kept flags xs) xs
unfolding kept
kept_within [] [] = none
kept_within [] (x ∷ xs) = left_out x (kept_within [] xs)
kept_within (b ∷ flags) [] = none
kept_within (true ∷ flags) (x ∷ xs) = stays x (kept_within flags xs)
kept_within (false ∷ flags) (x ∷ xs) = left_out x (kept_within flags xs)

pub no_longer : {A : Type 0} {xs ys : List A} → IsSubsequence xs ys → length xs ≤ length ys
no_longer none = omega arith
no_longer (left_out y rest) = omega (arith, no_longer rest)
no_longer (stays y rest) = omega (arith, no_longer rest)

-- one item more
kept_last : {A : Type 0} (flags : List Bool) (xs : List A) (b : Bool) (x : A) → length flags ≡ length xs
    → kept (flags ++ b ∷ []) (xs ++ x ∷ []) ≡ kept flags xs ++ kept (b ∷ []) (x ∷ [])
unfolding kept
kept_last [] [] b x same = refl
kept_last [] (y ∷ xs) b x same = absurd (omega (arith, same))
kept_last (a ∷ flags) [] b x same = absurd (omega (arith, same))
kept_last (true ∷ flags) (y ∷ xs) b x same = ap (λ ys. y ∷ ys) (kept_last flags xs b x (omega (arith, same)))
kept_last (false ∷ flags) (y ∷ xs) b x same = kept_last flags xs b x (omega (arith, same))

one_more : {A : Type 0} (xs : List A) (k : ℕ) (x : A) → slice_get xs k ≡ Some x → take (k + 1) xs ≡ take k xs ++ x ∷ []
one_more xs k x at = take_more xs k x (slice_get_within xs k x at) ∙ ap (λ y. take k xs ++ y ∷ []) (get_or_from_slice_get xs k x x at)

module _ {A : Type 0} (flags : List Bool) (xs : List A) (same : length flags ≡ length xs) (k : ℕ) where
  same_takes : length (take k flags) ≡ length (take k xs)
  same_takes = length-take k flags ∙ ap (λ n. min k n) same ∙ sym (length-take k xs)

  pub all_kept : length xs ≤ k → kept (take k flags) (take k xs) ≡ kept flags xs
  all_kept all =
      ap (λ bs. kept bs (take k xs)) (take_all k flags (omega (arith, all, same))) ∙ ap (λ ys. kept flags ys) (take_all k xs all)

  module _ (x : A) (at : slice_get xs k ≡ Some x) (b d : Bool) (flag : get_or flags k d ≡ b) where
    flag_more : take (k + 1) flags ≡ take k flags ++ b ∷ []
    flag_more =
        take_more flags k d (omega (arith, slice_get_within xs k x at, same)) ∙ ap (λ c. take k flags ++ c ∷ []) flag

    next : kept (take (k + 1) flags) (take (k + 1) xs) ≡ kept (take k flags) (take k xs) ++ kept (b ∷ []) (x ∷ [])
    next = rw (flag_more, one_more xs k x at) (kept_last (take k flags) (take k xs) b x same_takes)

  pub next_stays : (x : A) → slice_get xs k ≡ Some x → (d : Bool) → get_or flags k d ≡ true
      → kept (take (k + 1) flags) (take (k + 1) xs) ≡ kept (take k flags) (take k xs) ++ x ∷ []
  unfolding kept
  next_stays x at d flag = next x at true d flag

  pub next_goes : (x : A) → slice_get xs k ≡ Some x → (d : Bool) → get_or flags k d ≡ false
      → kept (take (k + 1) flags) (take (k + 1) xs) ≡ kept (take k flags) (take k xs)
  unfolding kept
  next_goes x at d flag = next x at false d flag ∙ append-nil (kept (take k flags) (take k xs))
