-- What a result that can't be an error is.
use Rattle.std.proofs.Common.{◌≡◌, ◌≤◌, ◌<◌, ℕ, Result, Ok, Err, OnErr, is_ok, if◌then◌else◌, arith}

-- a push into a list with room
pub pushed : {T E X : Type 0} (r : Result T E) (len capacity : ℕ) (xs ys zs : X) → len < capacity → OnErr r (capacity ≤ len)
    → zs ≡ (if is_ok r then xs else ys) → zs ≡ xs
pushed (Ok x) len capacity xs ys zs room full e = e
pushed (Err x) len capacity xs ys zs room full e = absurd (omega arith)
