-- The walk over the rows of a side that gives the positions which the side asserts.
use Rattle.std.specs.Prelude.{ℕ, ◌≡◌, ◌<◌, ◌+◌, List, [], ◌∷◌, Some, slice_get}
use Rattle.pc_ground.specs.declared.row.{RowKind.{RowKind, TheVariants.{True, False, Lit, And, Or}}, Row.{Row}}

abbrev pub stride_of : {N : Type 0} → RowKind N → ℕ → ℕ
stride_of True skip = 1
stride_of False skip = 1
stride_of (Lit l) skip = 1
stride_of And skip = 1
stride_of Or skip = skip

-- how far it is to the next position of a walk: past the whole of an Or, one elsewhere
abbrev pub stride : {N : Type 0} → Row N → ℕ
stride r = stride_of r.kind r.skip

-- from a position on, up to the end of the side, the walk comes to these positions
pub data Walk {N : Type 0} (rows : List (Row N)) (end : ℕ) : ℕ → List ℕ → Type 0 where
  at_end : Walk rows end end []
  onward : {ps : List ℕ} (at : ℕ) (r : Row N) → at < end → slice_get rows at ≡ Some r → Walk rows end (at + stride r) ps
      → Walk rows end at (at ∷ ps)
