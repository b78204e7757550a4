use Rattle.cert_check.{specs.Subjects.{question_of_subject}, proofs.RawStages.{raw_start}}
use Rattle.cert_check.proofs.judge.CertificateJudge.new.Goals as goal

pub returns-clause-stands : goal.returns-clause-stands
returns-clause-stands c = raw_start (question_of_subject c.args.subject)
