-- A text cut into lines, each of which ends with LF.
use Rattle.std.specs.{Prelude.{◌≡◌, ◌≢◌, ◌<◌, ℕ, List, ◌++◌, codes, length}, List.{All, flat_map}}

-- no LF stands in it
abbrev pub IsLine : List ℕ → Type 0
IsLine line = All (λ byte. byte ≢ 10) line

-- the lines one after another, each with its LF
abbrev pub text_of_lines : List (List ℕ) → List ℕ
text_of_lines lines = flat_map (λ line. line ++ codes "\n") lines

-- the text up to its first LF, and what stands after that
pub record IsFirstLine (text line rest : List ℕ) : Type 0 where
  pub is_line : IsLine line
  pub text_is : text ≡ (line ++ codes "\n") ++ rest

-- the text is made of lines that are whole, and of nothing else
pub record IsMadeOf (whole : List (List ℕ) → Type 0) (text : List ℕ) : Type 0 where
  pub lines : List (List ℕ)
  pub are_lines : All IsLine lines
  pub text_is : text ≡ text_of_lines lines
  pub accepted : whole lines

-- the text's first n lines, each with its LF, are there and begin well
pub record FirstLinesBegin (begins : List (List ℕ) → Type 0) (text : List ℕ) (n : ℕ) : Type 0 where
  pub lines : List (List ℕ)
  pub rest : List ℕ
  pub count : length lines ≡ n
  pub are_lines : All IsLine lines
  pub text_is : text ≡ text_of_lines lines ++ rest
  pub begin : begins lines

-- the first line that is refused, from 1: the text is not whole, and its lines before this one begin well, but not
-- those through it
pub record IsRefusedAt (begins whole : List (List ℕ) → Type 0) (text : List ℕ) (n : ℕ) : Type 0 where
  pub no_whole : IsMadeOf whole text → ⊥
  pub before : (k : ℕ) → k < n → FirstLinesBegin begins text k
  pub here : FirstLinesBegin begins text n → ⊥

-- some first lines of the text, each with its LF, don't begin well
pub record HoldsRefused (begins : List (List ℕ) → Type 0) (text : List ℕ) : Type 0 where
  pub lines : List (List ℕ)
  pub rest : List ℕ
  pub are_lines : All IsLine lines
  pub text_is : text ≡ text_of_lines lines ++ rest
  pub bad : begins lines → ⊥
