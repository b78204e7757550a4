-- What holds of all that a listing without a fault says.
use Rattle.std.specs.Prelude.{◌≡◌, ℕ, ◌+◌, ◌≤◌, List, Some, length, slice_get}
use Rattle.pc_common.specs.declared.limits.TheConstants.{MAX_CORE, MAX_OPS}
use Rattle.x86_litmus.specs.Said.{Said}

-- no location has two values
abbrev pub IsOnce : List (List ℕ × ℕ) → Type 0
IsOnce values =
    (j k : ℕ) (a b : List ℕ × ℕ) → slice_get values j ≡ Some a → slice_get values k ≡ Some b → a.0 ≡ b.0 → j ≡ k

pub record IsSound (s : Said) : Type 0 where
  pub columns : s.columns ≤ MAX_CORE + 1
  pub few : length s.instructions ≤ MAX_OPS
  pub initial_once : IsOnce s.initial
  pub final_once : IsOnce s.final
