-- What a feed is after a text, and what it answers at the end.
use Rattle.std.specs.Prelude.{◌≡◌, ◌≤◌, ◌<◌, ◌⊎◌, ℕ, List, length, min, IsTrue, MatchBool, ⊤}
use Rattle.line_judge.specs.{Texts.{IsRefusedAt, HoldsRefused}, Judges.{JudgeView}, JudgedLines.{IsGood, IsBad, IsWhole}, declared.feed.Feed.{Feed}}
use Rattle.line_judge.specs.declared.feed.Finished.{Finished, TheVariants.{Whole, Refused}}

-- the feed was begun with this judge and this limit, and took this text
pub record HasTaken {J : Type 0} (view : J → JudgeView) (start : J) (limit : ℕ) (text : List ℕ)
    (feed : Feed J) : Type 0 where
  pub same_limit : feed.limit ≡ limit
  pub short : limit < 9223372036854775808
  pub bytes : feed.bytes ≡ min (length text) 18446744073709551615
  pub within : length text ≤ limit → MatchBool feed.refused (IsBad (view start).begins text feed.judged.lines)
      (IsGood view start text feed.judged)

-- this holds of each judge, limit and text that the feed was begun with and took
abbrev pub EachTaken : {J : Type 0} → (J → JudgeView) → Feed J → (J → ℕ → List ℕ → Type 0) → Type 0
EachTaken {J} view feed Says =
    (start : J) (limit : ℕ) (text : List ℕ) → HasTaken view start limit text feed → Says start limit text

-- what may follow changes nothing: all that came is longer than the limit, or the text holds a refused line
abbrev pub IsDecided : (List (List ℕ) → Type 0) → ℕ → (text all : List ℕ) → Type 0
IsDecided begins limit text all = (limit < length all) ⊎ HoldsRefused begins text

-- a line was refused, or more bytes came than the limit
abbrev pub IsSettled : {J : Type 0} → Feed J → Type 0
IsSettled feed = IsTrue feed.refused ⊎ (feed.limit < feed.bytes)

-- the first line of the text that is refused where a judge means this
abbrev pub IsRefusedLine : JudgeView → List ℕ → ℕ → Type 0
IsRefusedLine view text n = IsRefusedAt view.begins view.whole text n

-- 0 stands for a text past the limit, any other number for the line that is refused
pub record IsRefusedBy (begins whole : List (List ℕ) → Type 0) (limit : ℕ) (text : List ℕ) (number : ℕ) : Type 0 where
  pub past : number ≡ 0 → limit < length text
  pub within : 0 < number → length text ≤ limit
  pub line : 0 < number → IsRefusedAt begins whole text number

-- the answer at the text's end
abbrev pub IsAnswer : {J : Type 0} → (J → JudgeView) → J → ℕ → List ℕ → Finished J → Type 0
IsAnswer view start limit text (Whole judge) = (length text ≤ limit) × IsWhole view start text judge
IsAnswer view start limit text (Refused number) = IsRefusedBy (view start).begins (view start).whole limit text number

-- two answers are both Whole, or are refused by one number
abbrev pub AreAlike : {J : Type 0} → Finished J → Finished J → Type 0
AreAlike (Whole judge) (Whole other) = ⊤
AreAlike (Whole judge) (Refused number) = ⊥
AreAlike (Refused number) (Whole judge) = ⊥
AreAlike (Refused m) (Refused n) = m ≡ n

-- whatever was read, a text has one answer
abbrev pub HasOneAnswer : {J : Type 0} → (J → JudgeView) → J → ℕ → List ℕ → Type 0
HasOneAnswer {J} view start limit text =
    (one other : Finished J) → IsAnswer view start limit text one → IsAnswer view start limit text other → AreAlike one other
