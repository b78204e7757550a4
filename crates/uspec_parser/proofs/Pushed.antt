-- A list with one element more, and others after it, and a list that becomes a shared one.
use Rattle.std.proofs.{Common.{◌≡◌, List, [], ◌∷◌, ◌++◌, Result, IfOk, sym, ap, subst, ◌∙◌, append_assoc}, lemmas.Result.{IfOk-weaker}}

pub pushed : {X : Type 0} (new old more : List X) (x y : X) → new ≡ old ++ x ∷ [] → x ≡ y → old ++ y ∷ more ≡ new ++ more
pushed {X} new old more x y e same =
    ap (λ (z : X). old ++ z ∷ more) (sym same) ∙ sym (ap (λ (l : List X). l ++ more) e ∙ append_assoc old (x ∷ []) more)

pub all_shared : {X E : Type 0} (made : Result (List X) E) (xs : List X) (P : List X → Type 0) → P xs → IfOk made (λ s. s ≡ xs) → IfOk made P
all_shared made xs P whole = IfOk-weaker made (λ s. s ≡ xs) P (λ s same. subst P (sym same) whole)
