-- The values of a row, read by read.
use Rattle.std.proofs.Common.{◌≡◌, ℕ, zero, suc, ◌<◌, ◌+◌, ◌%◌, Bool, true, false, cond, List, [], ◌∷◌, Option, Some, None, length, map, drop, get_or, refl, sym, ◌∙◌, ap, arith}
use Rattle.std.{proofs.lemmas.List.{length-map}, specs.{Prelude.{unwrap_or, ◌==◌}, List.{slice_get}}}
use Rattle.pc_common.specs.{Case.{Value, number}, declared.value.Value.{Value as CodeValue}}
use Rattle.pc_case.specs.Plain.{plain_value}
use Rattle.pattern_reader.specs.{Rows.{left_by, row_values, value_for}, Reads.{values_in, op_in, value_at_place}, declared.rows.OpenRead.{OpenRead}}

-- the value that a row has for a micro-op, by the reads from one on
abbrev pub value_among : List OpenRead → ℕ → ℕ → Option Value
value_among reads row place = value_for (map op_in reads) (row_values (map values_in reads) row) place

pub plus_one : (k : ℕ) → k + 1 ≡ suc k
plus_one k = omega arith

at_map : (vs : List CodeValue) (k : ℕ) (v : CodeValue) → slice_get vs k ≡ Some v → plain_value v ≡ get_or (map plain_value vs) k (number 0)
at_map [] k v e = cc
at_map (w ∷ vs) zero v e = ap (λ o. plain_value (unwrap_or o v)) (sym e)
at_map (w ∷ vs) (suc k) v e = at_map vs k v e

-- a value, by its place among those of a read
pub value_read : (vs : List CodeValue) (v : CodeValue) (left n : ℕ) → n ≡ length vs → slice_get vs (left % n) ≡ Some v
    → plain_value v ≡ get_or (map plain_value vs) (left % length (map plain_value vs)) (number 0)
value_read vs v left n few e =
    at_map vs (left % n) v e ∙ ap (λ m. get_or (map plain_value vs) (left % m) (number 0)) (few ∙ sym (length-map vs plain_value))

value_from : (reads : List OpenRead) (row k : ℕ) (r : OpenRead) → slice_get reads k ≡ Some r
    → slice_get (row_values (map values_in reads) row) k
    ≡ Some (get_or (values_in r) (left_by (map values_in (drop (suc k) reads)) row % length (values_in r)) (number 0))
value_from [] row k r e = cc
value_from (x ∷ reads) row zero r e =
    ap (λ o. Some (get_or (values_in (unwrap_or o r)) (left_by (map values_in reads) row % length (values_in (unwrap_or o r))) (number 0))) e
value_from (x ∷ reads) row (suc k) r e = value_from reads row k r e

-- the value of one read
pub value_here : (reads : List OpenRead) (row k : ℕ) (r : OpenRead) (left : ℕ) (v : Value) → slice_get reads k ≡ Some r
    → left ≡ left_by (map values_in (drop (k + 1) reads)) row → v ≡ get_or (values_in r) (left % length (values_in r)) (number 0)
    → slice_get (row_values (map values_in reads) row) k ≡ Some v
value_here reads row k r left v e l is =
    value_from reads row k r e
    ∙ ap (λ n. Some (get_or (values_in r) (n % length (values_in r)) (number 0)))
    (ap (λ j. left_by (map values_in (drop j reads)) row) (sym (plus_one k)) ∙ sym l)
    ∙ ap (λ x. Some x) (sym is)

-- a read that is at the place has its value
pub is_at_place : (reads : List OpenRead) (values : List Value) (k place : ℕ) (r : OpenRead) (v : Value) → slice_get reads k ≡ Some r
    → slice_get values k ≡ Some v → (r.op == place) ≡ true → Some v ≡ value_at_place (map op_in reads) values k place
is_at_place [] values k place r v e f same = cc
is_at_place (x ∷ reads) [] k place r v e f same = cc
is_at_place (x ∷ reads) (w ∷ values) zero place r v e f same =
    let here : (x.op == place) ≡ true = ap (λ o. (unwrap_or o r).op == place) e ∙ same in
    sym (ap (λ b. cond b (Some w) None) here ∙ f)
is_at_place (x ∷ reads) (w ∷ values) (suc k) place r v e f same = is_at_place reads values k place r v e f same

pub not_at_place : (reads : List OpenRead) (values : List Value) (k place : ℕ) (r : OpenRead) → slice_get reads k ≡ Some r
    → (r.op == place) ≡ false → None ≡ value_at_place (map op_in reads) values k place
not_at_place [] values k place r e same = cc
not_at_place (x ∷ reads) [] k place r e same = refl
not_at_place (x ∷ reads) (w ∷ values) zero place r e same =
    let here : (x.op == place) ≡ false = ap (λ o. (unwrap_or o r).op == place) e ∙ same in sym (ap (λ b. cond b (Some w) None) here)
not_at_place (x ∷ reads) (w ∷ values) (suc k) place r e same = not_at_place reads values k place r e same

first_of : (b : Bool) (v x : Value) (rest : Option Value) → cond b (Some v) None ≡ Some x → Some x ≡ cond b (Some v) rest
first_of true v x rest e = sym e
first_of false v x rest e = cc

rest_of : (b : Bool) (v : Value) (rest : Option Value) → cond b (Some v) None ≡ None → cond b (Some v) rest ≡ rest
rest_of true v rest e = cc
rest_of false v rest e = refl

-- the first read at a place gives its value
pub found_at : (reads : List OpenRead) (row k place : ℕ) (v : Value) → value_at_place (map op_in reads) (row_values (map values_in reads) row) k place ≡ Some v
    → value_among reads row place ≡ value_among (drop k reads) row place → Some v ≡ value_among reads row place
found_at reads row k place v e before = found reads k e ∙ sym before
  where
    found : (rs : List OpenRead) (j : ℕ) → value_at_place (map op_in rs) (row_values (map values_in rs) row) j place ≡ Some v
        → Some v ≡ value_among (drop j rs) row place
    found [] j e = cc
    found (r ∷ rs) zero e = first_of (r.op == place) _ v (value_among rs row place) e
    found (r ∷ rs) (suc j) e = found rs j e

-- and one that is not is passed over
pub passed_at : (reads : List OpenRead) (row k place : ℕ) → k < length reads
    → value_at_place (map op_in reads) (row_values (map values_in reads) row) k place ≡ None
    → value_among reads row place ≡ value_among (drop k reads) row place → value_among reads row place ≡ value_among (drop (k + 1) reads) row place
passed_at reads row k place within e before =
    before ∙ passed reads k within e ∙ ap (λ j. value_among (drop j reads) row place) (sym (plus_one k))
  where
    passed : (rs : List OpenRead) (j : ℕ) → j < length rs → value_at_place (map op_in rs) (row_values (map values_in rs) row) j place ≡ None
        → value_among (drop j rs) row place ≡ value_among (drop (suc j) rs) row place
    passed [] j within e = absurd (omega (arith, within))
    passed (r ∷ rs) zero within e = rest_of (r.op == place) _ (value_among rs row place) e
    passed (r ∷ rs) (suc j) within e = passed rs j (omega (arith, within)) e
