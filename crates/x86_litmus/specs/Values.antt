-- A stated value and a word as plain data.
use Rattle.std.specs.{Prelude.{ℕ, List}, Borrow.{Bor}}

abbrev pub plain_entry : Bor (List ℕ) × ℕ → List ℕ × ℕ
plain_entry e = (e.0.now, e.1)

abbrev pub plain_word : Bor (List ℕ) → List ℕ
plain_word w = w.now
