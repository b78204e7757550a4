-- What stands at a place of a list, of more of it and of a part of it.
use Rattle.std.proofs.Common.{◌≡◌, ℕ, zero, suc, List, [], ◌∷◌, ◌++◌, Some, slice_get, ◌+◌, ◌<◌, length, refl, arith, drop, map, ◌∙◌, ap, take, inl, inr, ◌⊎◌}
use Rattle.std.{proofs.lemmas.{List.{drop_more, Elements.{All-contains}}, Option.{slice_get_within, get_or_from_slice_get}}, specs.Prelude.{All, unwrap_or}}
use Rattle.pc_common.proofs.Elements.{In, contains_from_in}

pub slice_get-more : {A : Type 0} (xs ys : List A) (k : ℕ) (x : A) → slice_get xs k ≡ Some x → slice_get (xs ++ ys) k ≡ Some x
slice_get-more [] ys k x h = cc
slice_get-more (y ∷ xs) ys zero x h = h
slice_get-more (y ∷ xs) ys (suc k) x h = slice_get-more xs ys k x h

pub get_before : {A : Type 0} (xs ys : List A) (k : ℕ) → k < length xs → slice_get (xs ++ ys) k ≡ slice_get xs k
get_before [] ys k within = absurd (omega arith)
get_before (x ∷ xs) ys zero within = refl
get_before (x ∷ xs) ys (suc k) within = get_before xs ys k (omega arith)

pub get_last : {A : Type 0} (xs : List A) (x : A) → slice_get (xs ++ x ∷ []) (length xs) ≡ Some x
get_last [] x = refl
get_last (y ∷ xs) x = get_last xs x

pub there_at : {Y : Type 0} (ys : List Y) (i : ℕ) → i < length ys → (y : Y) × (slice_get ys i ≡ Some y)
there_at [] i h = absurd (omega (arith, h))
there_at (y ∷ ys) zero h = (y, refl)
there_at (y ∷ ys) (suc i) h = there_at ys i (omega (arith, h))

pub drop_at : {X : Type 0} (xs : List X) (i : ℕ) (x : X) → slice_get xs i ≡ Some x → drop i xs ≡ x ∷ drop (i + 1) xs
drop_at xs i x e =
    drop_more xs i x (slice_get_within xs i x e) ∙ ap (λ y. y ∷ drop (i + 1) xs) (get_or_from_slice_get xs i x x e)

pub map_length : {X Y : Type 0} (f : X → Y) (xs : List X) → length (map f xs) ≡ length xs
map_length f [] = refl
map_length f (x ∷ xs) = omega (arith, map_length f xs)

pub take-next : {A : Type 0} (xs : List A) (k : ℕ) (x : A) → slice_get xs k ≡ Some x → take (suc k) xs ≡ take k xs ++ x ∷ []
take-next [] k x h = cc
take-next (y ∷ xs) zero x h = cc
take-next (y ∷ xs) (suc k) x h = ap (λ ys. y ∷ ys) (take-next xs k x h)

pub at_map : {X Y : Type 0} (f : X → Y) (xs : List X) (k : ℕ) (x : X) → slice_get xs k ≡ Some x → slice_get (map f xs) k ≡ Some (f x)
at_map f [] k x e = cc
at_map f (y ∷ xs) zero x e = ap (λ o. Some (f (unwrap_or o y))) e
at_map f (y ∷ xs) (suc k) x e = at_map f xs k x e

pub in_at : {X : Type 0} (xs : List X) (k : ℕ) (x : X) → slice_get xs k ≡ Some x → In x xs
in_at [] k x e = cc
in_at (y ∷ xs) zero x e = inl (ap (λ o. unwrap_or o y) e)
in_at (y ∷ xs) (suc k) x e = inr (in_at xs k x e)

pub all_at : {X : Type 0} (P : X → Type 0) (xs : List X) (k : ℕ) (x : X) → All P xs → slice_get xs k ≡ Some x → P x
all_at P xs k x all e = All-contains P xs x all (contains_from_in x xs (in_at xs k x e))

pub one_item : {X : Type 0} (x y : X) → Some x ≡ Some y → x ≡ y
one_item x y e = ap (λ o. unwrap_or o x) e

-- a place of a list with one element more
pub last_or : {X : Type 0} (xs : List X) (y : X) (k : ℕ) (x : X) → slice_get (xs ++ y ∷ []) k ≡ Some x → (slice_get xs k ≡ Some x) ⊎ (y ≡ x)
last_or [] y zero x e = inr cc
last_or [] y (suc k) x e = cc
last_or (z ∷ xs) y zero x e = inl e
last_or (z ∷ xs) y (suc k) x e = last_or xs y k x e
