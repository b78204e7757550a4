-- The words of a line, which stand between its spaces.
use Rattle.std.specs.{Prelude.{ℕ, List, ◌++◌, ◌==◌, codes}, List.{flat_map, count_by}}

-- each word after a space
abbrev pub words_text : List (List ℕ) → List ℕ
words_text ws = flat_map (λ w. codes " " ++ w) ws

-- how many bytes of the line are spaces
abbrev pub spaces : List ℕ → ℕ
spaces line = count_by (λ c. c == 32) line
