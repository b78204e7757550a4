-- The greatest core of a list, one micro-op at a time from the end.
use Rattle.std.{proofs.Common.{◌≡◌, ℕ, ◌+◌, List, Some, map, drop, ap}, specs.Prelude.{slice_get, max}}
use Rattle.pc_common.{specs.Case.{cores_of}, proofs.Places.{drop_at}}
use Rattle.pc_case.specs.{declared.op.Op.{Op}, Plain.{micro_op}}

-- the count at i is the greater of the micro-op's there and the count after it
pub cores_more : (ops : List Op) (i : ℕ) (o : Op) → slice_get ops i ≡ Some o
    → cores_of (map micro_op (drop i ops)) ≡ max (o.core + 1) (cores_of (map micro_op (drop (i + 1) ops)))
cores_more ops i o e = ap (λ os. cores_of (map micro_op os)) (drop_at ops i o e)

-- one turn: the count after i, and the greater of it and the micro-op's at i
pub cores_step : (ops : List Op) (i j k : ℕ) (o : Op) (old new : ℕ) → slice_get ops i ≡ Some o → j ≡ i + 1 → k ≡ i
    → old ≡ cores_of (map micro_op (drop j ops)) → new ≡ max (o.core + 1) old → new ≡ cores_of (map micro_op (drop k ops))
cores_step ops i j k o old new e at here was is =
    let more = cores_more ops i o e in
    rw here (rw more (rw (← at) (rw (← was) is)))
