-- A place past the end of a text has the line and the column of its end.
use Rattle.std.{proofs.{Common.{◌≡◌, ℕ, ◌+◌, List, length, min, ap}, lemmas.List.{take_min}}, specs.{Prelude.{◌==◌, count_by, not}, List.{suffix_len}}}
use Rattle.pc_common.specs.LineColumn.{line_of, column_of}

pub line_min : (bytes : List ℕ) (n : ℕ) → line_of bytes (min n (length bytes)) ≡ line_of bytes n
line_min bytes n = ap (λ xs. count_by (λ b. b == 10) xs + 1) (take_min n bytes)

pub column_min : (bytes : List ℕ) (n : ℕ) → column_of bytes (min n (length bytes)) ≡ column_of bytes n
column_min bytes n = ap (λ xs. suffix_len (λ b. not (b == 10)) xs + 1) (take_min n bytes)
