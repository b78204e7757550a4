-- A pattern closes to a test: a 0 stands in place of each `Any`, with two blanks, so that all else stays where it was.
use Rattle.std.specs.{Prelude.{ℕ, ◌+◌, List, slice_set}, List.{fold}}
use Rattle.pattern_reader.specs.Opens.{Open}

abbrev pub with_zero : List ℕ → Open → List ℕ
with_zero bytes o = slice_set (slice_set (slice_set bytes o.at 0x30) (o.at + 1) 0x20) (o.at + 2) 0x20

abbrev pub closed_bytes : List ℕ → List Open → List ℕ
closed_bytes bytes opens = fold with_zero bytes opens
