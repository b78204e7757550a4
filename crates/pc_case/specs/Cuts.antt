-- Lists that stand one after another in one list.
use Rattle.std.specs.Prelude.{ℕ, ◌≡◌, ◌≤◌, ◌-◌, List, [], ◌∷◌, take, drop}

-- each of them begins where the one before it ends, and the first one at `from`
unfoldable pub cuts : (bytes : List ℕ) (from : ℕ) (ends : List ℕ) → List (List ℕ)
cuts bytes from [] = []
cuts bytes from (end ∷ ends) = take (end - from) (drop from bytes) ∷ cuts bytes end ends

-- none of them ends before it begins, and the last one ends at `last`
unfoldable pub Rises : (from : ℕ) (ends : List ℕ) (last : ℕ) → Type 0
Rises from [] last = from ≡ last
Rises from (end ∷ ends) last = (from ≤ end) × Rises end ends last
