-- What an open read may read, as it is gathered.
use Rattle.std.proofs.Common.{ℕ, ◌≤◌, Bool, true, false, cond, List, [], ◌∷◌, ◌++◌, Option, Some, None, length, arith, length-append}
use Rattle.std.specs.List.{fold, slice_get}
use Rattle.pc_common.specs.{Case.{Address, Value, Touch, MicroOp, Case}, Addresses.{initial_at}}
use Rattle.pattern_reader.specs.Rows.{written_at, once_more, values_touched, touch_of_op, values_of}

abbrev pub add_written : Address → List Value → MicroOp → List Value
add_written pa vs o = once_more vs (written_at pa o.kind o.touch)

-- of the first micro-ops
abbrev pub written_so_far : Case → Address → List MicroOp → List Value
written_so_far c pa ops = fold (add_written pa) (initial_at c pa ∷ []) ops

kept : (vs : List Value) (v : Value) (b : Bool) → 1 ≤ length vs → 1 ≤ length (cond b vs (vs ++ v ∷ []))
kept vs v true h = h
kept vs v false h = omega (arith, h, length-append vs (v ∷ []))

once_some : (vs : List Value) (v : Option Value) → 1 ≤ length vs → 1 ≤ length (once_more vs v)
once_some vs None h = h
once_some vs (Some v) h = kept vs v _ h

written_some : (pa : Address) (ops : List MicroOp) (vs : List Value) → 1 ≤ length vs → 1 ≤ length (fold (add_written pa) vs ops)
written_some pa [] vs h = h
written_some pa (o ∷ ops) vs h = written_some pa ops (add_written pa vs o) (once_some vs (written_at pa o.kind o.touch) h)

touched_some : (c : Case) (t : Option Touch) → 1 ≤ length (values_touched c t)
touched_some c None = omega arith
touched_some c (Some t) = written_some t.pa c.ops (initial_at c t.pa ∷ []) (omega arith)

-- each micro-op may read something
pub values_some : (c : Case) (k : ℕ) → 1 ≤ length (values_of c k)
values_some c k = touched_some c (touch_of_op (slice_get c.ops k))
