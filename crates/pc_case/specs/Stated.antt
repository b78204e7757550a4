-- What the type of a case keeps of its stated values and of its dependencies.
use Rattle.std.specs.Prelude.{ℕ, ◌≡◌, ◌<◌, List, Some, slice_get}
use Rattle.pc_common.specs.Case.{Address, Value, Dependency}

-- no address is stated twice
abbrev pub IsStatedOnce : List (Address × Value) → Type 0
IsStatedOnce ss =
    (j k : ℕ) (a b : Address × Value) → slice_get ss j ≡ Some a → slice_get ss k ≡ Some b → a.0 ≡ b.0 → j ≡ k

-- each dependency goes between places below n
abbrev pub AreWithin : ℕ → List Dependency → Type 0
AreWithin n ds = (k : ℕ) (d : Dependency) → slice_get ds k ≡ Some d → (d.source < n) × (d.target < n)
