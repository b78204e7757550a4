-- Words that have a bit in common.
use Rattle.std.proofs.Common.{◌≡◌, ◌≢◌, ℕ, ◌+◌, ◌*◌, ◌/◌, ◌%◌, ◌^◌, ◌<◌, ◌≤◌, inl, inr, Bool, true, false, List, length, get_or, bit_or, bit_and, ◌∙◌, ap, arith, eq-eqb, ne_eqb, eqb-true, w64, MatchBool, SomeIndex, EachIndex, below_more, lit<, not, eqb}
use Rattle.std.proofs.lemmas.{Bool.{cases_eq}, Nat.{le_or_l, le_or_r, and_le_l, div-mul-add, mod-mul-add, div_below}}
use Rattle.std.{proofs.lemmas.Nat.Bits.{bit_at_and, bit_at-lt, bit_at-zero, bit_at-trailing_zeros}, specs.Int.{bit_at, trailing_zeros, Bits.{or_zero_r}}}
use Rattle.undo_trail.specs.Bits.{column}

-- the words before k were looked at
pub record HasMet (a b : List ℕ) (k met : ℕ) : Type 0 where
  pub none : met ≡ 0 → (i : ℕ) → i < k → bit_and (get_or a i 0) (get_or b i 0) ≡ 0
  pub some : met ≢ 0 → (i : ℕ) × (i < k) × (bit_and (get_or a i 0) (get_or b i 0) ≢ 0)

pub met_more : (a b : List ℕ) (k met : ℕ) → HasMet a b k met → HasMet a b (k + 1) (bit_or met (bit_and (get_or a k 0) (get_or b k 0)))
met_more a b k met m =
    let x : ℕ = bit_and (get_or a k 0) (get_or b k 0) in
    let l = le_or_l met x in
    let r = le_or_r met x in
    record {
      none = λ e. below_more (λ i. bit_and (get_or a i 0) (get_or b i 0) ≡ 0) k (m.none (omega arith)) (omega arith);
      some = λ n. elim (cases_eq x 0) [
        | inl zero_x ↦ let s = m.some (λ e. n (ap (bit_or met) zero_x ∙ or_zero_r met ∙ e)) in (s.0, omega (arith, s.1), s.2)
        | inr nonzero ↦ (k, omega arith, nonzero)
      ];
    }

pub columns_meet : (a b : List ℕ) (met : Bool) → ((i : ℕ) → get_or a i 0 < 2 ^ 64)
    → MatchBool met (SomeIndex a (λ k. bit_and (get_or a k 0) (get_or b k 0) ≢ 0)) (EachIndex a (λ k. bit_and (get_or a k 0) (get_or b k 0) ≡ 0))
    → MatchBool met ((c : ℕ) × (c < 64 * length a) × (column a c ≡ true) × (column b c ≡ true))
    ((c : ℕ) → c < 64 * length a → column a c ≡ true → column b c ≡ false)
unfolding column
columns_meet a b true fits s =
    let k : ℕ = s.0 in
    let inside = s.1 in
    let x : ℕ = get_or a k 0 in
    let y : ℕ = get_or b k 0 in
    let n : ℕ = bit_and x y in
    let nonzero = s.2 in
    let small = fits k in
    let low = and_le_l x y in
    let z = bit_at-trailing_zeros w64 n (omega arith) (omega arith) in
    let i : ℕ = trailing_zeros w64 n in
    let i_low : i < 64 = z.0 in
    let both = bit_at_and x y i in
    let one = z.1 in
    let lx = bit_at-lt x i in
    let ly = bit_at-lt y i in
    let div_is : (k * 64 + i) / 64 ≡ k = div-mul-add k 64 i i_low in
    let mod_is : (k * 64 + i) % 64 ≡ i = mod-mul-add k 64 i i_low in
    (k * 64 + i, omega arith, rw (div_is, mod_is) (eq-eqb (bit_at x i) 1 (omega arith)), rw (div_is, mod_is) (eq-eqb (bit_at y i) 1 (omega arith)))
columns_meet a b false fits e = λ c inside has_a.
    let k : ℕ = c / 64 in
    let i : ℕ = c % 64 in
    let x : ℕ = get_or a k 0 in
    let y : ℕ = get_or b k 0 in
    let none : bit_and x y ≡ 0 = e k (div_below c 64 (length a) (lit< tt) (omega arith)) in
    let both = bit_at_and x y i in
    let zero_bit : bit_at (bit_and x y) i ≡ 0 = ap (λ w. bit_at w i) none ∙ bit_at-zero i in
    let one = eqb-true (bit_at x i) 1 has_a in
    let ly = bit_at-lt y i in
    ne_eqb (bit_at y i) 1 (omega arith)

pub met_all : (a b : List ℕ) (k met : ℕ) → HasMet a b k met → k ≤ length a → length a ≤ k
    → MatchBool (not (eqb met 0)) (SomeIndex a (λ k. bit_and (get_or a k 0) (get_or b k 0) ≢ 0)) (EachIndex a (λ k. bit_and (get_or a k 0) (get_or b k 0) ≡ 0))
met_all a b k met m within past = elim (cases_eq met 0) [
  | inl clear ↦ rw (eq-eqb met 0 clear) (λ i h. m.none clear i (omega arith))
  | inr nonzero ↦ rw (ne_eqb met 0 nonzero) (let s = m.some nonzero in (s.0, omega (arith, s.1), s.2))
]
