-- The words of `gen`.
use Rattle.std.{proofs.Common.{◌≡◌, ℕ, ◌≤◌, List, [], ◌∷◌, Option, Some, None, sym, ◌∙◌, ap}, specs.{Prelude.{codes, MatchOption}, Fmt.{decimal}}}
use Rattle.command_base.specs.Command.{gen, IsCommand}

second : List (List ℕ) → List ℕ
second [] = []
second (x ∷ []) = []
second (x ∷ y ∷ more) = y

-- the words are `gen` and this number, where the text is it
pub gen_words : (words : List (List ℕ)) (number : List ℕ) (o : Option ℕ) → words ≡ codes "gen" ∷ number ∷ []
    → MatchOption o ((n : ℕ) → 2 ≤ n → n ≤ 16 → number ≡ decimal n → ⊥) (λ n. (2 ≤ n) × (n ≤ 16) × (number ≡ decimal n))
    → MatchOption o ((n : ℕ) → IsCommand words (gen n) → ⊥) (λ n. IsCommand words (gen n))
unfolding second
gen_words words number None e none = λ n is. none n is.1.0 is.1.1 (ap second (sym e ∙ is.0))
gen_words words number (Some n) e is = (e ∙ ap (λ d. codes "gen" ∷ d ∷ []) is.2, (is.0, is.1))
