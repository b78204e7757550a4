-- The terminals of tokens, one after the other.
use Rattle.std.proofs.{Common.{◌≡◌, ℕ, ◌+◌, ◌<◌, List, [], ◌∷◌, ◌++◌, Some, length, map, take, get_or, slice_get, sym, ap, ◌∙◌}, lemmas.List.{map_more}}
use Rattle.std.proofs.lemmas.Option.{get_or_from_slice_get}
use Rattle.uspec_lexer.specs.Token.{Token}

-- one more is seen
pub seen_more : {T : Type 0} (seen : Token → T) (ts : List Token) (k : ℕ) (t : Token) (x : T) (old new : List T) → slice_get ts k ≡ Some t
    → k < length ts → x ≡ seen t → old ≡ map seen (take k ts) → new ≡ old ++ x ∷ [] → new ≡ map seen (take (k + 1) ts)
seen_more {T} seen ts k t x old new at within is before pushed =
    let here : get_or ts k t ≡ t = get_or_from_slice_get ts k t t at in
    let last : x ≡ seen (get_or ts k t) = is ∙ ap seen (sym here) in
    pushed ∙ ap (λ (xs : List T). xs ++ x ∷ []) before ∙ ap (λ (y : T). map seen (take k ts) ++ y ∷ []) last
    ∙ sym (map_more seen ts k t within)
