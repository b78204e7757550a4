-- What the open reads of a pattern may read, and the case of each row.
use Rattle.std.specs.Prelude.{ℕ, ◌+◌, ◌*◌, ◌/◌, ◌%◌, ◌==◌, List, [], ◌∷◌, ◌++◌, Option, Some, None, map, length, slice_get, get_or, if◌then◌else◌}
use Rattle.std.specs.{List.{fold, list_any}, Option.{option_map}}
use Rattle.pc_common.specs.{Case.{Address, Value, number, Touch, Kind, write, MicroOp, Case}, Addresses.{same_address, same_value, initial_at}}

-- the case with 0 in each open read, and the micro-ops of the open reads, by place in test order
pub record Pattern : Type 0 where
  pub case : Case
  pub opens : List ℕ

-- the value that an access writes at this address, if it does
abbrev pub written_at : Address → Kind → Option Touch → Option Value
written_at pa write (Some t) = if same_address t.pa pa then Some t.value else None
written_at pa _ _ = None

-- after those before, unless it is one of them
abbrev pub once_more : List Value → Option Value → List Value
once_more vs None = vs
once_more vs (Some v) = if list_any (same_value v) vs then vs else vs ++ v ∷ []

-- the initial value at the address, then the values of the writes there in test order, each once
abbrev pub values_at : Case → Address → List Value
values_at c pa = fold (λ vs (o : MicroOp). once_more vs (written_at pa o.kind o.touch)) (initial_at c pa ∷ []) c.ops

-- of what a micro-op touches; what touches nothing is no read, and stands for one value
abbrev pub values_touched : Case → Option Touch → List Value
values_touched c None = number 0 ∷ []
values_touched c (Some t) = values_at c t.pa

abbrev pub touch_of_op : Option MicroOp → Option Touch
touch_of_op None = None
touch_of_op (Some o) = o.touch

-- what the micro-op at this place may read
abbrev pub values_of : Case → ℕ → List Value
values_of c k = values_touched c (touch_of_op (slice_get c.ops k))

-- what each open read may read
abbrev pub choices_of : Case → List ℕ → List (List Value)
choices_of c opens = map (values_of c) opens

-- how many combinations there are
abbrev pub combinations : List (List Value) → ℕ
combinations [] = 1
combinations (vs ∷ rest) = length vs * combinations rest

abbrev pub rows_of : Pattern → ℕ
rows_of p = combinations (choices_of p.case p.opens)

-- what is left of a row's number when these, the last first, have taken their digits
abbrev pub left_by : List (List Value) → ℕ → ℕ
left_by [] row = row
left_by (vs ∷ rest) row = left_by rest row / length vs

-- the values of a row: its number in digits, of which the last changes fastest
abbrev pub row_values : List (List Value) → ℕ → List Value
row_values [] row = []
row_values (vs ∷ rest) row = get_or vs (left_by rest row % length vs) (number 0) ∷ row_values rest row

abbrev pub values_in_row : Pattern → ℕ → List Value
values_in_row p row = row_values (choices_of p.case p.opens) row

-- the value of the open read at this place, if there is one
abbrev pub value_for : List ℕ → List Value → ℕ → Option Value
value_for [] vs k = None
value_for (o ∷ os) [] k = None
value_for (o ∷ os) (v ∷ vs) k = if o == k then Some v else value_for os vs k

abbrev pub touch_reading : Value → Touch → Touch
touch_reading v t = record { va = t.va; pa = t.pa; value = v }

-- the micro-op with this value
abbrev pub reading : Option Value → MicroOp → MicroOp
reading None o = o
reading (Some v) o =
    record {
      g = o.g;
      n = o.n;
      core = o.core;
      thread = o.thread;
      types = o.types;
      kind = o.kind;
      touch = option_map (touch_reading v) o.touch;
    }

-- micro-ops from place k on, each with the value that there is for its place
abbrev pub filled : (ℕ → Option Value) → ℕ → List MicroOp → List MicroOp
filled value k [] = []
filled value k (o ∷ os) = reading (value k) o ∷ filled value (k + 1) os

-- the case with these micro-ops
abbrev pub with_ops : Case → List MicroOp → Case
with_ops c ops = record {
  ops = ops;
  dependencies = c.dependencies;
  initial = c.initial;
  final = c.final;
  expectation = c.expectation;
}

-- the case of a row: the values of the row in the open reads
abbrev pub row_case : Pattern → ℕ → Case
row_case p row = with_ops p.case (filled (value_for p.opens (values_in_row p row)) 0 p.case.ops)
