-- When two names are one.
use Rattle.std.specs.{Prelude.{ℕ, Bool, List, nat_eq}, Cmp.Lexicographic.{pointwise}}

-- byte for byte
abbrev pub same_name : List ℕ → List ℕ → Bool
same_name = pointwise nat_eq
