-- The text of a sweep.
use Rattle.std.specs.{Prelude.{ℕ, Bool, true, false, not, List, ◌++◌, codes, get_or, count_by}, Fmt.{decimal}, List.{flat_map, range_with_len}}
use Rattle.pc_common.specs.Case.{Value, number, entry}
use Rattle.pattern_reader.specs.Rows.{Pattern, rows_of, values_in_row}
use Rattle.sweep_command.specs.declared.command.Swept.{Swept}

-- after a space: a number, or an entry's tag and its two marks
abbrev pub value_text : Value → List ℕ
value_text (number n) = codes " " ++ decimal n
value_text (entry e) =
    codes " Maps:" ++ decimal e.tag ++ codes ":" ++ decimal e.accessed ++ codes ":" ++ decimal e.dirty

abbrev pub values_text : Pattern → ℕ → List ℕ
values_text p row = flat_map value_text (values_in_row p row)

abbrev pub verdict_word : Bool → List ℕ
verdict_word true = codes " observable\n"
verdict_word false = codes " unobservable\n"

-- the row's values and its verdict
abbrev pub row_text : Pattern → List Bool → ℕ → List ℕ
row_text p answers row = codes "row" ++ (values_text p row ++ verdict_word (get_or answers row false))

abbrev pub rows_text : Pattern → List Bool → List ℕ
rows_text p answers = flat_map (row_text p answers) (range_with_len 0 (rows_of p))

abbrev pub observables : List Bool → ℕ
observables answers = count_by (λ b. b) answers

abbrev pub unobservables : List Bool → ℕ
unobservables answers = count_by not answers

-- how many rows are observable, and how many are not
abbrev pub counts_text : List Bool → List ℕ
counts_text answers =
    codes "observable " ++ (decimal (observables answers)
    ++ (codes "\nunobservable " ++ (decimal (unobservables answers) ++ codes "\nend\n")))

abbrev pub sweep_text : Pattern → List Bool → List ℕ
sweep_text p answers =
    (codes "sweep " ++ decimal (rows_of p) ++ codes "\n") ++ (rows_text p answers ++ counts_text answers)

abbrev pub swept_text : Swept → List ℕ
swept_text s = sweep_text s.pattern s.answers.items
