-- What a judge's lines are of a text so far.
use Rattle.std.specs.{Prelude.{◌≡◌, ◌↔◌, ◌+◌, ◌≤◌, ◌<◌, ℕ, List, [], ◌∷◌, ◌++◌, codes, length, min, Bool, MatchBool, Result, MatchResult}, List.{All}}
use Rattle.line_judge.specs.{Texts.{IsLine, text_of_lines, IsMadeOf, IsRefusedAt}, Judges.{JudgeView}, declared.judged.Judged.{Judged}}

-- two judges judge the same texts
pub record JudgeAlike (one other : JudgeView) : Type 0 where
  pub same_begins : (lines : List (List ℕ)) → one.begins lines ↔ other.begins lines
  pub same_whole : (lines : List (List ℕ)) → one.whole lines ↔ other.whole lines

-- the judge took all lines of the text and they are good, and the rest, after the last LF, waits
pub record IsGood {J : Type 0} (view : J → JudgeView) (start : J) (text : List ℕ) (judged : Judged J) : Type 0 where
  pub lines : List (List ℕ)
  pub are_lines : All IsLine lines
  pub is_open : IsLine judged.part.items
  pub text_is : text ≡ text_of_lines lines ++ judged.part.items
  pub count : judged.lines ≡ min (length lines) 18446744073709551615
  pub stand : (view judged.judge).stands lines
  pub alike : JudgeAlike (view start) (view judged.judge)

-- the line of this number is refused; the lines before it are good
pub record IsBad (begins : List (List ℕ) → Type 0) (text : List ℕ) (number : ℕ) : Type 0 where
  pub lines : List (List ℕ)
  pub line : List ℕ
  pub rest : List ℕ
  pub are_lines : All IsLine lines
  pub is_line : IsLine line
  pub text_is : text ≡ text_of_lines (lines ++ line ∷ []) ++ rest
  pub count : number ≡ min (length lines + 1) 18446744073709551615
  pub begin : begins lines
  pub bad : begins (lines ++ line ∷ []) → ⊥

-- a line with its LF
abbrev pub with_lf : List ℕ → List ℕ
with_lf line = line ++ codes "\n"

-- all lines are good, or else the last one that was taken is refused
abbrev pub IsJudged : {J : Type 0} → (J → JudgeView) → J → List ℕ → Judged J → Bool → Type 0
IsJudged view start text judged good =
    MatchBool good (IsGood view start text judged) (IsBad (view start).begins text judged.lines)

-- this holds of each judge and text of which all lines were good
abbrev pub EachGood : {J : Type 0} → (J → JudgeView) → Judged J → (J → List ℕ → Type 0) → Type 0
EachGood {J} view judged Says = (start : J) (text : List ℕ) → IsGood view start text judged → Says start text

-- the text is whole, and the judge stands at its lines
pub record IsWhole {J : Type 0} (view : J → JudgeView) (start : J) (text : List ℕ) (judge : J) : Type 0 where
  pub made : IsMadeOf (view start).whole text
  pub stand : (view judge).stands made.lines
  pub alike : JudgeAlike (view start) (view judge)

-- a text that ends is refused at a line which is there, or should come next
pub record IsRefusedWith (begins whole : List (List ℕ) → Type 0) (text : List ℕ) (number : ℕ) : Type 0 where
  pub line : ℕ
  pub from_one : 0 < line
  pub few : line ≤ length text + 1
  pub count : number ≡ min line 18446744073709551615
  pub refused : IsRefusedAt begins whole text line

-- a text ends: it is whole, or is refused
abbrev pub IsEnd : {J : Type 0} → (J → JudgeView) → J → List ℕ → Result J ℕ → Type 0
IsEnd view start text result =
    MatchResult result (IsWhole view start text) (IsRefusedWith (view start).begins (view start).whole text)
