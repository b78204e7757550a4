-- Marks, kept as how many there are at each number of literals.
use Rattle.std.specs.Prelude.{ℕ, ◌+◌, List, [], ◌∷◌, ◌++◌, replicate}

-- the marks, the first count being of those at k literals
abbrev pub marks_from : ℕ → List ℕ → List ℕ
marks_from k [] = []
marks_from k (c ∷ cs) = replicate c k ++ marks_from (k + 1) cs
