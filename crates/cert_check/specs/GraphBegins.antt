-- Texts and lines that begin as a refutation does.
use Rattle.std.specs.Prelude.{◌≡◌, ℕ, List, ◌∷◌, ◌++◌, codes}

-- the first line says unobservable, and its LF is there
abbrev pub SaysUnobservable : List ℕ → Type 0
SaysUnobservable text = (rest : List ℕ) × (text ≡ codes "unobservable\n" ++ rest)

-- so of lines
abbrev pub IsUnobservableFirst : List (List ℕ) → Type 0
IsUnobservableFirst raws = (rest : List (List ℕ)) × (raws ≡ codes "unobservable" ∷ rest)
