-- What is decided of numbers and addresses.
use Rattle.std.proofs.{Common.{◌≡◌, ℕ, ◌<◌, ◌≤◌, ◌⊎◌, ⊎_elim, inl, inr, ap, arith}, str.Laws.{order}}
use Rattle.pc_case.specs.declared.address.Address.{Address, TheVariants.{Page, Entry}}

-- a statement holds, or it never does
abbrev pub Decided : Type 0 → Type 0
Decided P = P ⊎ (P → ⊥)

pub both : {P Q : Type 0} → Decided P → Decided Q → Decided (P × Q)
both (inl p) (inl q) = inl (p, q)
both (inl p) (inr never) = inr (λ h. never h.1)
both (inr never) q = inr (λ h. never h.0)

pub less : (m n : ℕ) → Decided (m < n)
less m n = ⊎_elim (λ lt. inl lt) (λ le. inr (λ lt. omega arith)) (order m n)

pub at_most : (m n : ℕ) → Decided (m ≤ n)
at_most m n = ⊎_elim (λ lt. inr (λ le. omega arith)) (λ le. inl le) (order n m)

pub same_number : (m n : ℕ) → Decided (m ≡ n)
same_number m n =
    ⊎_elim (λ lt. inr (λ e. omega arith))
    (λ le. ⊎_elim (λ lt. inr (λ e. omega arith)) (λ le'. inl (omega arith)) (order n m)) (order m n)

pub same_address : (a b : Address) → Decided (a ≡ b)
same_address (Page t x) (Page u y) =
    ⊎_elim
    (λ h. let tag = h.0 in let index = h.1 in inl (λ i. Page (tag i) (index i)))
    (λ other. inr (λ e. other (cc, cc)))
    (both (same_number t u) (same_number x y))
same_address (Entry t) (Entry u) = ⊎_elim (λ e. inl (ap Entry e)) (λ other. inr (λ e. other (cc))) (same_number t u)
same_address (Page t x) (Entry u) = inr (λ e. cc)
same_address (Entry t) (Page u y) = inr (λ e. cc)
