use Rattle.lifted_check.{specs.LiftedTexts.{asked}, proofs.Texts.{done_is}}
use Rattle.lifted_check.proofs.judge.LiftedJudgeJudge.is_done.Goals as goal

pub returns : goal.returns
returns c = λ lines st. rw c.is_end.ensures (done_is (asked c.args.self.now.case.now c.args.self.now.axioms.now) st.0 c.args.self.now.stage lines st.1)
