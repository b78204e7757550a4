-- What stays of a list, by one flag for each item.
use Rattle.std.specs.Prelude.{List, [], ◌∷◌, Bool, true, false}

-- the items whose flag is set
unfoldable pub kept : {A : Type 0} → List Bool → List A → List A
kept [] xs = []
kept (b ∷ flags) [] = []
kept (true ∷ flags) (x ∷ xs) = x ∷ kept flags xs
kept (false ∷ flags) (x ∷ xs) = kept flags xs
