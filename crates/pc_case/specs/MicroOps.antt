-- What holds of the micro-ops of a test.
use Rattle.std.specs.Prelude.{ℕ, ◌≡◌, ◌+◌, ◌<◌, ◌≤◌, ◌↔◌, List, Some, length, slice_get, IsNone}
use Rattle.pc_common.specs.{Case.{MicroOp, fence}, declared.limits.TheConstants.{MAX_CORE, MAX_OPS}}

pub record AreMicroOps (ops : List MicroOp) : Type 0 where
  pub few : length ops ≤ MAX_OPS
  pub cores : (k : ℕ) (o : MicroOp) → slice_get ops k ≡ Some o → o.core < MAX_CORE + 1
  -- no two have one (g, n)
  pub once : (j k : ℕ) (a b : MicroOp) → slice_get ops j ≡ Some a → slice_get ops k ≡ Some b
      → a.g ≡ b.g → a.n ≡ b.n → j ≡ k
  -- fences alone touch nothing
  pub fences : (k : ℕ) (o : MicroOp) → slice_get ops k ≡ Some o → (o.kind ≡ fence) ↔ IsNone o.touch

-- the micro-op at place k is number n of instruction g
abbrev pub IsNamed : List MicroOp → ℕ → ℕ → ℕ → Type 0
IsNamed ops g n k = (o : MicroOp) × (slice_get ops k ≡ Some o) × (o.g ≡ g) × (o.n ≡ n)
