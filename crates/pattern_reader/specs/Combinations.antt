-- What the rows of a pattern are together: every combination of what its open reads may read, each once, in order.
use Rattle.std.specs.Prelude.{◌≡◌, ◌<◌, ⊤, ℕ, List, [], ◌∷◌, Some, slice_get}
use Rattle.pc_common.specs.Case.{Value}
use Rattle.pattern_reader.specs.Rows.{Pattern, rows_of, choices_of, values_in_row}

-- a value stands once in the list
abbrev pub IsEachOnce : List Value → Type 0
IsEachOnce vs = (i j : ℕ) (v : Value) → slice_get vs i ≡ Some v → slice_get vs j ≡ Some v → i ≡ j

-- one value of each list
abbrev pub AreChosen : List (List Value) → List Value → Type 0
AreChosen [] [] = ⊤
AreChosen [] (v ∷ vs) = ⊥
AreChosen (c ∷ cs) [] = ⊥
AreChosen (c ∷ cs) (v ∷ vs) = ((i : ℕ) × (slice_get c i ≡ Some v)) × AreChosen cs vs

-- where the two first differ, the value of the first stands before that of the second
pub data IsBefore : List (List Value) → List Value → List Value → Type 0 where
  earlier : {c : List Value} {cs : List (List Value)} {v w : Value} {vs ws : List Value} (i j : ℕ) → i < j
      → slice_get c i ≡ Some v → slice_get c j ≡ Some w → IsBefore (c ∷ cs) (v ∷ vs) (w ∷ ws)
  alike : {c : List Value} {cs : List (List Value)} {v : Value} {vs ws : List Value}
      → IsBefore cs vs ws → IsBefore (c ∷ cs) (v ∷ vs) (v ∷ ws)

-- what each open read may read
abbrev pub choices_in : Pattern → List (List Value)
choices_in p = choices_of p.case p.opens

abbrev pub HasEachValueOnce : Pattern → Type 0
HasEachValueOnce p = (k : ℕ) (vs : List Value) → slice_get (choices_in p) k ≡ Some vs → IsEachOnce vs

abbrev pub HasRowsOfValues : Pattern → Type 0
HasRowsOfValues p = (row : ℕ) → row < rows_of p → AreChosen (choices_in p) (values_in_row p row)

abbrev pub HasEachCombination : Pattern → Type 0
HasEachCombination p = (vs : List Value) → AreChosen (choices_in p) vs
    → (row : ℕ) × (row < rows_of p) × (values_in_row p row ≡ vs)

abbrev pub HasEachRowOnce : Pattern → Type 0
HasEachRowOnce p = (j k : ℕ) → j < rows_of p → k < rows_of p → values_in_row p j ≡ values_in_row p k → j ≡ k

-- the last open read changes fastest
abbrev pub HasRowsInOrder : Pattern → Type 0
HasRowsInOrder p = (j k : ℕ) → j < k → k < rows_of p → IsBefore (choices_in p) (values_in_row p j) (values_in_row p k)
