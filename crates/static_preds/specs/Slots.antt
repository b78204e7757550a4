-- The slots of an environment stand for micro-ops of the case and for cores from 0 to 63.
use Rattle.std.specs.Prelude.{◌≡◌, ℕ, ◌<◌, List, Some, length, slice_get}
use Rattle.pc_common.specs.Case.{Case}
use Rattle.pc_syntax.specs.declared.{term.Sort.{Sort, TheVariants.{Microop, Core as core_sort}}, bound.Bound.{Bound, TheVariants.{Op, Core}}}

pub record AreInRange (c : Case) (slots : List Bound) : Type 0 where
  pub ops : (k i : ℕ) → slice_get slots k ≡ Some (Op i) → i < length c.ops
  pub cores : (k n : ℕ) → slice_get slots k ≡ Some (Core n) → n < 64

-- one value is in the same range
abbrev pub IsInRange : Case → Bound → Type 0
IsInRange c (Op i) = i < length c.ops
IsInRange c (Core n) = n < 64

-- the k-th value of a range, from 0
abbrev pub bound_at : Sort → ℕ → Bound
bound_at Microop k = Op k
bound_at core_sort k = Core k
