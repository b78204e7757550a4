-- The words of a line, which stand between its spaces.
use Rattle.std.specs.{Prelude.{ℕ, List, ◌==◌}, List.{slice_split}}

-- what stands between the spaces, so that two spaces in a row have an empty word between them
abbrev pub words : List ℕ → List (List ℕ)
words line = slice_split (λ c. c == 32) line
