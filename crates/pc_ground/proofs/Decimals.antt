-- Digits read from the first on, and what a number is written as.
use Rattle.std.proofs.Common.{◌≡◌, ℕ, ◌+◌, ◌-◌, ◌*◌, ◌<◌, ◌≤◌, ◌≢◌, true, false, zero, suc, Option, Some, None, eqb, List, [], ◌∷◌, length, get_or, drop, lit<, lit≤, sym, ◌∙◌, ap, arith, rules}
use Rattle.std.proofs.lemmas.{Bool.{eqb-false}, List.{drop_more}}
use Rattle.std.proofs.lemmas.Fmt.{digits_decimal, digits_value-decimal, decimal-digits_value, decimal_digit, first_decimal, decimal_nonempty}
use Rattle.std.{proofs.lemmas.Str.Parse.{IsNumeralModel, numerals_by_fold, tells_all_ascii_digits}, specs.{Prelude.{MatchOption}, Fmt.{decimal}}}
use Rattle.std.specs.{Str.{all_ascii_digits}, Char.{is_ascii_digit}}
use Rattle.pc_common.proofs.Bools.{and_first, not_both}
use Rattle.pc_ground.specs.Decimals.{IsDecimal, IsDigits, read_on}

pub own : IsNumeralModel (λ ds. all_ascii_digits ds ≡ true) (read_on 0)
own = numerals_by_fold _ tells_all_ascii_digits read_on (search rules)

-- more digits make no value less
pub read_on-le : (n : ℕ) (ds : List ℕ) → n ≤ read_on n ds
read_on-le n [] = omega arith
read_on-le n (d ∷ ds) = omega (arith, read_on-le (10 * n + (d - 48)) ds)

-- the digits from k on, read after the value of those before
abbrev pub ReadUpTo : List ℕ → ℕ → ℕ → Type 0
ReadUpTo ds k value = (all_ascii_digits (drop k ds) ≡ all_ascii_digits ds) × (read_on value (drop k ds) ≡ read_on 0 ds)

pub decimal_digits : (ds : List ℕ) (n : ℕ) → IsDecimal ds n → all_ascii_digits ds ≡ true
decimal_digits ds n h = ap all_ascii_digits h.1 ∙ digits_decimal own n (omega (arith, h.0))

pub decimal_read : (ds : List ℕ) (n : ℕ) → IsDecimal ds n → read_on 0 ds ≡ n
decimal_read ds n h = ap (read_on 0) h.1 ∙ digits_value-decimal own n (omega (arith, h.0))

pub not_digit : (ds : List ℕ) (k value : ℕ) → k < length ds → ReadUpTo ds k value → is_ascii_digit (get_or ds k 0) ≡ false
    → (n : ℕ) → IsDecimal ds n → ⊥
not_digit ds k value inside so_far other n h =
    let all : all_ascii_digits (get_or ds k 0 ∷ drop (k + 1) ds) ≡ true =
    ap all_ascii_digits (sym (drop_more ds k 0 inside)) ∙ so_far.0 ∙ decimal_digits ds n h in
    not_both (is_ascii_digit (get_or ds k 0)) (and_first (is_ascii_digit (get_or ds k 0)) (all_ascii_digits (drop (k + 1) ds)) all) other

pub too_great : (ds : List ℕ) (k value : ℕ) → k < length ds → ReadUpTo ds k value → 18446744073709551615 < 10 * value + (get_or ds k 0 - 48)
    → (n : ℕ) → IsDecimal ds n → ⊥
too_great ds k value inside so_far great n h =
    let next : read_on (10 * value + (get_or ds k 0 - 48)) (drop (k + 1) ds) ≡ n =
    ap (read_on value) (sym (drop_more ds k 0 inside)) ∙ so_far.1 ∙ decimal_read ds n h in
    omega (arith, next, great, h.0, read_on-le (10 * value + (get_or ds k 0 - 48)) (drop (k + 1) ds))

pub decimal_nonzero : (ds : List ℕ) (n : ℕ) → IsDigits ds n → n ≤ 18446744073709551615 → 0 < length ds → get_or ds 0 0 ≢ 48 → IsDecimal ds n
decimal_nonzero ds n h fits some first =
    (fits, sym (ap decimal (sym h.1) ∙ decimal-digits_value own ds h.0 some (λ zero. absurd (first zero)) (omega (arith, h.1, fits))))

pub decimal_empty : (ds : List ℕ) → length ds ≡ 0 → (n : ℕ) → IsDecimal ds n → ⊥
decimal_empty ds none n h = omega (arith, decimal_nonempty n (omega (arith, h.0)), ap length h.1)

zero_is : decimal 0 ≡ 48 ∷ []
zero_is = decimal_digit 0 (lit< tt)

pub leading_zero : (ds : List ℕ) → get_or ds 0 0 ≡ 48 → length ds ≢ 1 → (n : ℕ) → IsDecimal ds n → ⊥
leading_zero ds first more zero h = more (ap length (h.1 ∙ zero_is))
leading_zero ds first more (suc n) h =
    let is : get_or ds 0 0 ≡ get_or (decimal (suc n)) 0 0 = ap (λ xs. get_or xs 0 0) h.1 in
    omega (arith, is, first, first_decimal (suc n) (omega arith) (omega (arith, h.0)))

pub decimal_zero : (ds : List ℕ) → get_or ds 0 0 ≡ 48 → length ds ≡ 1 → IsDecimal ds 0
decimal_zero [] first one = absurd (omega (arith, one))
decimal_zero (x ∷ []) first one = (lit≤ tt, ap (λ c. c ∷ []) first ∙ sym zero_is)
decimal_zero (x ∷ y ∷ zs) first one = absurd (omega (arith, one))

pub decimal_found : (ds : List ℕ) (r : Option ℕ) → false ≡ eqb (length ds) 0 → get_or ds 0 0 ≢ 48
    → MatchOption r ((n : ℕ) → IsDecimal ds n → ⊥) (λ n. (n ≤ 18446744073709551615) × IsDigits ds n)
    → MatchOption r ((n : ℕ) → IsDecimal ds n → ⊥) (λ n. IsDecimal ds n)
decimal_found ds None some first h = h
decimal_found ds (Some n) some first h =
    let ne = eqb-false (length ds) 0 (sym some) in
    decimal_nonzero ds n h.1 h.0 (omega (arith, ne)) first
