-- What a judge means.
use Rattle.std.specs.Prelude.{ℕ, List, [], ◌∷◌, ◌++◌}

-- of a judge: which lines begin a whole text, which are one, and which it took, all of them good
pub record JudgeView : Type 1 where
  pub begins : List (List ℕ) → Type 0
  pub whole : List (List ℕ) → Type 0
  pub stands : List (List ℕ) → Type 0

-- a judge that took some lines took them and this one afterwards
abbrev pub GoesOn : (old new : JudgeView) → List ℕ → Type 0
GoesOn old new line = (lines : List (List ℕ)) → old.stands lines → new.stands (lines ++ line ∷ [])

-- with this line, the lines that a judge took begin no whole text
abbrev pub Refuses : JudgeView → List ℕ → Type 0
Refuses judge line = (lines : List (List ℕ)) → judge.stands lines → judge.begins (lines ++ line ∷ []) → ⊥
