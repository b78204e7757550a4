-- What a checker is after a text, and what its answer says.
use Rattle.std.specs.Prelude.{◌≡◌, ℕ, ◌<◌, ◌≤◌, List, length, IsTrue, ⊤}
use Rattle.pc_common.specs.{World.{Node, World, IsWorld}, declared.limits.TheConstants.{MAX_CERTIFICATE}}
use Rattle.pc_syntax.specs.Closed.{closed_satisfies}
use Rattle.line_judge.specs.{Texts.{IsMadeOf, IsRefusedAt}, Judges.{JudgeView}, declared.feed.Finished.{Finished}}
use Rattle.line_judge.specs.{declared.feed.Finished.TheVariants.{Whole as a_whole_text, Refused as refused_at}, Feeds.{HasTaken}}
use Rattle.lifted_check.specs.{LiftedTexts.{Question, asked, IsLiftedText, BeginsLifted}, Stages.{Stands}, declared.judge.LiftedJudge.{LiftedJudge}}
use Rattle.lifted_check.specs.declared.{checker.LiftedChecker.{LiftedChecker}, lifted.Lifted.{Lifted, TheVariants.{Unobservable, Refused}}}

-- the text is that of a lifted refutation; or, where it is none's, the first line with which it doesn't begin well any
-- more; or 0 where it is longer than the limit
pub data IsFound (q : Question) (text : List ℕ) : Lifted → Type 0 where
  unseen : length text ≤ MAX_CERTIFICATE → IsMadeOf (IsLiftedText q) text → IsFound q text Unobservable
  too_long : MAX_CERTIFICATE < length text → IsFound q text (Refused 0)
  refused : (n : ℕ) → length text ≤ MAX_CERTIFICATE → IsRefusedAt (BeginsLifted q) (IsLiftedText q) text n → IsFound q text (Refused n)

-- a refutation shows that no world makes every axiom true; a refused text says nothing
abbrev pub SaysOutcome : Question → Lifted → Type 0
SaysOutcome q Unobservable = (w : World Node) → IsWorld w → IsTrue (closed_satisfies q.axioms q.case w) → ⊥
SaysOutcome q (Refused n) = ⊤

-- what a text is, by what its feed found
abbrev pub lifted_of : Finished LiftedJudge → Lifted
lifted_of (a_whole_text judge) = Unobservable
lifted_of (refused_at n) = Refused n

abbrev pub judge_question : LiftedJudge → Question
judge_question j = asked j.case.now j.axioms.now

-- what a judge of lifted texts means
abbrev pub judge_view : LiftedJudge → JudgeView
judge_view j = record {
  begins = BeginsLifted (judge_question j);
  whole = IsLiftedText (judge_question j);
  stands = Stands (judge_question j) j.stage;
}

-- the checker is one of this question, and took this text
pub record IsFed (c : LiftedChecker) (q : Question) (text : List ℕ) : Type 0 where
  pub start : LiftedJudge
  pub asks : judge_question start ≡ q
  pub taken : HasTaken judge_view start MAX_CERTIFICATE text c.feed

-- this holds of each question and text of which the checker is
abbrev pub EachFed : LiftedChecker → (Question → List ℕ → Type 0) → Type 0
EachFed c Says = (q : Question) (text : List ℕ) → IsFed c q text → Says q text
