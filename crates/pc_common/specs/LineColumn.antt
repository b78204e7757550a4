-- Line and column of a place in a file, both from 1.
use Rattle.std.specs.{Prelude.{ℕ, List, ◌+◌, ◌==◌, take, count_by, not}, List.{suffix_len}}

-- one more than the LF bytes before the place
abbrev pub line_of : List ℕ → ℕ → ℕ
line_of bytes offset = count_by (λ b. b == 10) (take offset bytes) + 1

-- one more than the bytes before the place, back to the last LF or to the start
abbrev pub column_of : List ℕ → ℕ → ℕ
column_of bytes offset = suffix_len (λ b. not (b == 10)) (take offset bytes) + 1
