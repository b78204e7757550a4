-- Words that are one, byte for byte.
use Rattle.std.proofs.{Common.{◌≡◌, ℕ, true, List, refl}, lemmas.Slice.Eq.{bytes_eq-Decides}}
use Rattle.pc_common.specs.Names.{same_name}

pub same_is : (v w : List ℕ) → same_name v w ≡ true → v ≡ w
same_is v w h = (bytes_eq-Decides v w).0 h

pub is_same : (v w : List ℕ) → v ≡ w → same_name v w ≡ true
is_same v w e = (bytes_eq-Decides v w).1 e

pub same_self : (w : List ℕ) → same_name w w ≡ true
same_self w = is_same w w refl
