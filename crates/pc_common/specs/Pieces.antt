-- What went out of a piece, where not all of it did.
use Rattle.std.specs.Prelude.{◌≡◌, ◌<◌, ◌++◌, ℕ, List, length, take}

-- after what was there stand the first bytes of the piece, and not all of them
pub record IsCutShort (before piece after : List ℕ) : Type 0 where
  pub shown : ℕ
  pub short : shown < length piece
  pub bytes : after ≡ before ++ take shown piece
