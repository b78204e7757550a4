-- A language of marked texts, however it is stated: `Marked cs marks` says that the tokens are a text,
-- and that these of them, one mark each, stand too deep. A language with no bound marks none.
use Rattle.std.specs.Prelude.{◌≡◌, ◌+◌, ◌<◌, ℕ, Bool, true, List, ◌++◌, Some, length, take, slice_get}

abbrev pub IsText : {C : Type 0} → (List C → List Bool → Type 0) → List C → Type 0
IsText Marked cs = (marks : List Bool) × Marked cs marks

-- Some text begins with these tokens: they are a viable prefix.
abbrev pub IsViable : {C : Type 0} → (List C → Type 0) → List C → Type 0
IsViable {C} Text cs = (rest : List C) × Text (cs ++ rest)

-- Some text begins with the tokens through k, and token k stands too deep in it.
abbrev pub IsDeepAt : {C : Type 0} → (List C → List Bool → Type 0) → List C → ℕ → Type 0
IsDeepAt {C} Marked cs k =
    (k < length cs) × (rest : List C) × (marks : List Bool)
    × Marked (take (k + 1) cs ++ rest) marks × (slice_get marks k ≡ Some true)

-- No token before k stands too deep.
abbrev pub NoneDeep : {C : Type 0} → (List C → List Bool → Type 0) → List C → ℕ → Type 0
NoneDeep Marked cs k = (j : ℕ) → j < k → IsDeepAt Marked cs j → ⊥
