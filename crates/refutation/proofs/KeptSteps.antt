-- What stays of a list that is read from its start.
use Rattle.std.proofs.Common.{◌≡◌, ◌≤◌, ℕ, List, [], ◌∷◌, ◌++◌, Bool, true, false, length, map, drop, refl, sym, ◌∙◌, ap, arith, append_assoc}
use Rattle.std.proofs.lemmas.List.{map-append, drop_all, append-nil}
use Rattle.refutation.specs.Kept.{kept}

kept_none : {X : Type 0} (flags : List Bool) → kept {A = X} flags [] ≡ []
unfolding kept
kept_none [] = refl
kept_none (b ∷ flags) = refl

kept_true : {X : Type 0} (flags : List Bool) (x : X) (xs : List X) → kept (true ∷ flags) (x ∷ xs) ≡ x ∷ kept flags xs
unfolding kept
kept_true flags x xs = refl

kept_false : {X : Type 0} (flags : List Bool) (x : X) (xs : List X) → kept (false ∷ flags) (x ∷ xs) ≡ kept flags xs
unfolding kept
kept_false flags x xs = refl

no_flags : {X : Type 0} (xs : List X) → kept [] xs ≡ []
unfolding kept
no_flags xs = refl

-- the next item is put behind those that were kept
pub next_stays : {X Y : Type 0} (f : X → Y) (flags : List Bool) (stays : Bool) (before after old new : List X) (x : X) → stays ≡ true
    → new ≡ old ++ x ∷ [] → before ≡ x ∷ after → map f new ++ kept flags (map f after) ≡ map f old ++ kept (stays ∷ flags) (map f before)
next_stays f flags stays before after old new x stay pushed next =
    rw (stay, pushed, next) (
    ap (λ ys. ys ++ kept flags (map f after)) (map-append f old (x ∷ [])) ∙ append_assoc (map f old) (f x ∷ []) (kept flags (map f after))
    ∙ ap (λ ys. map f old ++ ys) (sym (kept_true flags (f x) (map f after)))
    )

pub next_goes : {X Y : Type 0} (f : X → Y) (flags : List Bool) (stays : Bool) (before after : List X) (x : X) → stays ≡ false
    → before ≡ x ∷ after → kept flags (map f after) ≡ kept (stays ∷ flags) (map f before)
next_goes f flags stays before after x goes next = rw (goes, next) (sym (kept_false flags (f x) (map f after)))

none_kept : {X Y : Type 0} (f : X → Y) (stays : Bool) (flags : List Bool) (before : List X) → length before ≡ 0
    → kept flags (map f before) ≡ kept (stays ∷ flags) (map f before)
none_kept f stays flags [] none = kept_none flags ∙ sym (kept_none (stays ∷ flags))
none_kept f stays flags (x ∷ before) none = absurd (omega (arith, none))

pub none_next : {X Y : Type 0} (f : X → Y) (stays : Bool) (flags : List Bool) (before after : List X) → before ≡ after → length before ≡ 0
    → kept flags (map f after) ≡ kept (stays ∷ flags) (map f before)
none_next f stays flags before after same none = ap (λ xs. kept flags (map f xs)) (sym same) ∙ none_kept f stays flags before none

-- behind the last flag nothing stays
pub all_kept : {X : Type 0} (flags : List Bool) (k : ℕ) (old xs all : List X) → length flags ≤ k → old ++ kept (drop k flags) xs ≡ all → old ≡ all
all_kept flags k old xs all behind is =
    sym (append-nil old) ∙ ap (λ ys. old ++ ys) (sym (no_flags xs)) ∙ ap (λ bs. old ++ kept bs xs) (sym (drop_all k flags behind)) ∙ is
