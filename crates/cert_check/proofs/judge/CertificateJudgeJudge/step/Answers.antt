use Rattle.std.proofs.{Common.{◌≡◌, ℕ, List, [], ◌∷◌, ◌++◌, true, false}, lemmas.Result.{IfOk-weaker}}
use Rattle.pc_common.specs.Lines.{Line}
use Rattle.cert_check.specs.{Subjects.{question_of_subject, IsSubject}, RawLines.{RawStands}, Stages.{StandsAt}, Judged.{CanJudge, JudgedFirst, HasStepped}}
use Rattle.cert_check.proofs.Judged.{judged_goes, judged_refused}
use Rattle.cert_check.proofs.judge.CertificateJudgeJudge.step.Goals as goal

pub returns-clause-goes : goal.returns-clause-goes
returns-clause-goes c =
    let s = c.args.self.now.subject in let old = c.args.self.now.stage in let new = c.advance.new.stage in let text = c.args.line.now in
    IfOk-weaker c.advance.result
    (λ good. IsSubject s → (lines : List Line) → StandsAt (question_of_subject s) old lines → HasStepped s lines text new good)
    (λ good. good ≡ true → (raws : List (List ℕ)) → IsSubject s × RawStands (question_of_subject s) old raws × CanJudge s raws
    → IsSubject s × RawStands (question_of_subject s) new (raws ++ text ∷ []) × CanJudge s (raws ++ text ∷ []))
    (λ good h e raws st.
    let next = judged_goes s old new raws text st.1 st.2 good e (h st.0 st.1.lines st.1.stands) in (st.0, next.0, next.1))
    c.advance.ensures

pub returns-clause-refused : goal.returns-clause-refused
returns-clause-refused c =
    let s = c.args.self.now.subject in let old = c.args.self.now.stage in let new = c.advance.new.stage in let text = c.args.line.now in
    IfOk-weaker c.advance.result
    (λ good. IsSubject s → (lines : List Line) → StandsAt (question_of_subject s) old lines → HasStepped s lines text new good)
    (λ good. good ≡ false → (raws : List (List ℕ)) → IsSubject s × RawStands (question_of_subject s) old raws × CanJudge s raws
    → JudgedFirst s (raws ++ text ∷ []) → ⊥)
    (λ good h e raws st. judged_refused s old new raws text st.1 good e (h st.0 st.1.lines st.1.stands))
    c.advance.ensures
