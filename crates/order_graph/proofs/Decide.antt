-- Two numbers are equal or not.
use Rattle.std.proofs.{Common.{◌≡◌, ◌≢◌, ℕ, ◌⊎◌, inl, inr, arith}, lemmas.Bool.{cases_lt}}

pub same_or_not : (m n : ℕ) → (m ≡ n) ⊎ (m ≢ n)
same_or_not m n =
    elim (cases_lt m n) [
      | inl below ↦ inr (omega arith)
      | inr above ↦ elim (cases_lt n m) [ inl less ↦ inr (omega arith) | inr equal ↦ inl (omega arith) ]
    ]
