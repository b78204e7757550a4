-- The last members of a list that is walked from its end.
use Rattle.std.proofs.Common.{◌≡◌, ℕ, ◌+◌, ◌-◌, List, ◌∷◌, Some, length, drop, slice_get, arith}
use Rattle.static_preds.proofs.Walked.{drop_at}

-- the last k + 1 members are the one before the last k, and these
pub last_ones : {A : Type 0} (xs : List A) (k i : ℕ) (x : A) → slice_get xs i ≡ Some x → i + (k + 1) ≡ length xs
    → drop (length xs - (k + 1)) xs ≡ x ∷ drop (length xs - k) xs
last_ones xs k i x h e =
    let here : i ≡ length xs - (k + 1) = omega arith in
    let next : i + 1 ≡ length xs - k = omega arith in
    rw (← here) (drop_at xs i (length xs - k) x h next)
