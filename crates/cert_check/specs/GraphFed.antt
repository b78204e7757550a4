-- What a checker of graphs is after a text.
use Rattle.std.specs.Prelude.{◌≡◌, ℕ, List}
use Rattle.pc_common.specs.declared.limits.TheConstants.{MAX_CERTIFICATE}
use Rattle.pc_ground.specs.NodeForm.{AreReadable}
use Rattle.line_judge.specs.Feeds.{HasTaken}
use Rattle.cert_check.specs.{Certificates.{Question}, Subjects.{question_of_subject}, Fed.{judge_view}}
use Rattle.cert_check.specs.declared.{judge.CertificateJudge.{CertificateJudge}, graph_checker.GraphChecker.{GraphChecker}}

-- the checker is one of this question, and took this text
pub record IsGraphFed (c : GraphChecker) (q : Question) (text : List ℕ) : Type 0 where
  pub start : CertificateJudge
  pub asks : question_of_subject start.subject ≡ q
  pub readable : AreReadable q.names
  pub taken : HasTaken judge_view start MAX_CERTIFICATE text c.feed
