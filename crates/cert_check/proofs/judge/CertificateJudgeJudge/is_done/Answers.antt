use Rattle.cert_check.proofs.Judged.{judged_done}
use Rattle.cert_check.proofs.judge.CertificateJudgeJudge.is_done.Goals as goal

pub returns : goal.returns
returns c = λ lines st. rw c.is_end.ensures (judged_done c.args.self.now.subject c.args.self.now.stage lines st.1 st.2)
