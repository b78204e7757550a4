-- What a checker is after a text.
use Rattle.std.specs.Prelude.{◌≡◌, ℕ, List}
use Rattle.pc_common.specs.declared.limits.TheConstants.{MAX_CERTIFICATE}
use Rattle.line_judge.specs.{Judges.{JudgeView}, Feeds.{HasTaken}}
use Rattle.cert_check.specs.{Certificates.{Question}, Proper.{IsAsked}, Subjects.{question_of_subject, HasTree, IsSubject}, RawLines.{RawStands}}
use Rattle.cert_check.specs.{Judged.{CanJudge, JudgedFirst, JudgedWhole}, declared.{judge.CertificateJudge.{CertificateJudge}, checker.Checker.{Checker}}}

-- what a judge of certificates means
abbrev pub judge_view : CertificateJudge → JudgeView
judge_view j = record {
  begins = JudgedFirst j.subject;
  whole = JudgedWhole j.subject;
  stands = λ raws. IsSubject j.subject × RawStands (question_of_subject j.subject) j.stage raws × CanJudge j.subject raws;
}

-- the checker is one of this question, and took this text
pub record IsFed (c : Checker) (q : Question) (text : List ℕ) : Type 0 where
  pub start : CertificateJudge
  pub asks : question_of_subject start.subject ≡ q
  pub asked : IsAsked q
  pub tree : HasTree start.subject
  pub taken : HasTaken judge_view start MAX_CERTIFICATE text c.feed
