-- One more item of a list that is walked over.
use Rattle.std.proofs.{Common.{◌≡◌, ℕ, ◌+◌, ◌<◌, List, [], ◌∷◌, ◌++◌, length, map, take, get_or, ap, ◌∙◌, append-nil}, lemmas.List.{map-append, take_more}}
use Rattle.std.{proofs.lemmas.Grind.{flat_map-append}, specs.List.{flat_map}}

pub map_more : {A B : Type 0} (f : A → B) (xs : List A) (i : ℕ) (d : A) → i < length xs
    → map f (take (i + 1) xs) ≡ map f (take i xs) ++ f (get_or xs i d) ∷ []
map_more f xs i d within = ap (map f) (take_more xs i d within) ∙ map-append f (take i xs) (get_or xs i d ∷ [])

pub flat_map_more : {A B C : Type 0} (g : B → List C) (f : A → B) (xs : List A) (i : ℕ) (d : A) → i < length xs
    → flat_map g (map f (take (i + 1) xs)) ≡ flat_map g (map f (take i xs)) ++ g (f (get_or xs i d))
flat_map_more g f xs i d within =
    ap (flat_map g) (map_more f xs i d within)
    ∙ flat_map-append g (map f (take i xs)) (f (get_or xs i d) ∷ [])
    ∙ ap (λ ys. flat_map g (map f (take i xs)) ++ ys) (append-nil (g (f (get_or xs i d))))
