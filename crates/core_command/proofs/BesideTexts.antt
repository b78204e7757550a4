-- Two lists side by side: their places.
use Rattle.std.proofs.Common.{◌≡◌, ℕ, zero, suc, ◌<◌, List, [], ◌∷◌, Some, length, map, get_or, refl, sym, ◌∙◌, ap, arith}
use Rattle.std.{proofs.lemmas.{List.{get_or-map, length-map}, Option.{get_or_from_slice_get}}, specs.Prelude.{slice_get}}
use Rattle.core_command.specs.CoreTexts.{pairs}

beside_length : {X Y : Type 0} (xs : List X) (ys : List Y) → length xs ≡ length ys → length (pairs xs ys) ≡ length ys
beside_length [] [] same = refl
beside_length [] (y ∷ ys) same = absurd (omega arith)
beside_length (x ∷ xs) [] same = refl
beside_length (x ∷ xs) (y ∷ ys) same = ap suc (beside_length xs ys (omega arith))

beside_at : {X Y : Type 0} (xs : List X) (ys : List Y) (k : ℕ) (d : X) (e : Y) → k < length xs → k < length ys
    → get_or (pairs xs ys) k (d, e) ≡ (get_or xs k d, get_or ys k e)
beside_at [] ys k d e h i = absurd (omega arith)
beside_at (x ∷ xs) [] k d e h i = absurd (omega arith)
beside_at (x ∷ xs) (y ∷ ys) zero d e h i = refl
beside_at (x ∷ xs) (y ∷ ys) (suc k) d e h i = beside_at xs ys k d e (omega arith) (omega arith)

module _ {X : Type 0} (f : X → List ℕ) (numbers : List ℕ) (xs : List X) (same : length numbers ≡ length xs) where
  pub images_beside : length (pairs numbers (map f xs)) ≡ length xs
  images_beside = let size : length (map f xs) ≡ length xs = length-map xs f in beside_length numbers (map f xs) (same ∙ sym size) ∙ size

  -- a number, and the image of what stands beside it
  pub image_at : (k n : ℕ) (x : X) → k < length xs → slice_get numbers k ≡ Some n → x ≡ get_or xs k x
      → get_or (pairs numbers (map f xs)) k (n, f x) ≡ (n, f x)
  image_at k n x inside number at =
      let size : length (map f xs) ≡ length xs = length-map xs f in
      let first : get_or numbers k n ≡ n = get_or_from_slice_get numbers k n n number in
      let second : get_or (map f xs) k (f x) ≡ f x = get_or-map f xs k x (f x) inside ∙ ap f (sym at) in
      beside_at numbers (map f xs) k n (f x) (omega (arith, inside, same)) (omega (arith, inside, size)) ∙ (λ i. (first i, second i))
