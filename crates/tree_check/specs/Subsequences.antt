-- What stays of a list where some of it is left out.
use Rattle.std.specs.Prelude.{List, [], ◌∷◌}

-- the first list is the second one without some of its items
pub data IsSubsequence {A : Type 0} : List A → List A → Type 0 where
  none : IsSubsequence [] []
  left_out : {xs ys : List A} (y : A) → IsSubsequence xs ys → IsSubsequence xs (y ∷ ys)
  stays : {xs ys : List A} (y : A) → IsSubsequence xs ys → IsSubsequence (y ∷ xs) (y ∷ ys)
