-- One thing of a list, by its place.
use Rattle.std.proofs.{Common.{◌≡◌, ℕ, List, [], ◌∷◌, Some, get_or, slice_get, sym, ◌∙◌, ap}, lemmas.{List.{append-nil}, Option.{get_or_from_slice_get}}}
use Rattle.std.specs.List.{flat_map}

pub text_at : {X : Type 0} (f : X → List ℕ) (xs : List X) (k : ℕ) (x : X) → slice_get xs k ≡ Some x → f x ≡ f (get_or xs k x)
text_at f xs k x e = ap f (sym (get_or_from_slice_get xs k x x e))

pub one_text : {X : Type 0} (f : X → List ℕ) (xs : List X) (k : ℕ) (x : X) → slice_get xs k ≡ Some x → flat_map f (x ∷ []) ≡ f (get_or xs k x)
one_text f xs k x e = append-nil (f x) ∙ text_at f xs k x e
