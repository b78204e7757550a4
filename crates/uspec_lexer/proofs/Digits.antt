-- The value of digits, read from the first one on.
use Rattle.std.proofs.Common.{◌≡◌, ℕ, ◌+◌, ◌-◌, ◌*◌, ◌<◌, ◌≤◌, List, [], ◌∷◌, length, get_or, take, drop, sym, ap, ◌∙◌, arith, take-append-drop}
use Rattle.std.{proofs.lemmas.Grind.{fold-append, common_steps}, specs.Prelude.{fold}}
use Rattle.uspec_lexer.specs.Bytes.{number_value}

abbrev more : ℕ → ℕ → ℕ
more value digit = value * 10 + (digit - 0x30)

-- more digits make no value less
more_digits-le : (value : ℕ) (digits : List ℕ) → value ≤ fold more value digits
more_digits-le value [] = omega arith
more_digits-le value (d ∷ ds) = omega (arith, more_digits-le (more value d) ds)

number_value-take-le : (digits : List ℕ) (i : ℕ) → number_value (take i digits) ≤ number_value digits
number_value-take-le digits i =
    let whole : fold more (number_value (take i digits)) (drop i digits) ≡ number_value digits =
    sym (fold-append more 0 (take i digits) (drop i digits)) ∙ ap number_value (take-append-drop i digits) in
    omega (arith, whole, more_digits-le (number_value (take i digits)) (drop i digits))

-- what stands before a digit and the digit make no more than the whole
pub digits_so_far : (digits : List ℕ) (i : ℕ) → i < length digits → number_value (take i digits) * 10 + (get_or digits i 0 - 0x30) ≤ number_value digits
digits_so_far digits i lt =
    let step : number_value (take (i + 1) digits) ≡ number_value (take i digits) * 10 + (get_or digits i 0 - 0x30) = grind (arith, common_steps) in
    omega (arith, step, number_value-take-le digits (i + 1))
