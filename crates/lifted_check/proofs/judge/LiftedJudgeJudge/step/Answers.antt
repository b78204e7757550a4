use Rattle.std.proofs.{Common.{◌≡◌, ℕ, List, [], ◌∷◌, ◌++◌, true, false, Bool, subst}, lemmas.Result.{IfOk-weaker}}
use Rattle.lifted_check.specs.{LiftedTexts.{asked, BeginsLifted}, Stages.{IsAsked, StandsAt, Stands, HasGone}}
use Rattle.lifted_check.proofs.judge.LiftedJudgeJudge.step.Goals as goal

pub returns-clause-goes : goal.returns-clause-goes
returns-clause-goes c =
    let j = c.args.self.now in
    let q = asked j.case.now j.axioms.now in
    let line = c.args.line.now in
    IfOk-weaker c.advance.result
    (λ good. IsAsked q → (lines : List (List ℕ)) → StandsAt q j.stage lines → HasGone q lines line c.advance.new.stage good)
    (λ good. good ≡ true → (lines : List (List ℕ)) → Stands q j.stage lines → Stands q c.advance.new.stage (lines ++ line ∷ []))
    (λ good h e lines st.
    let P : Bool → Type 0 = λ b. HasGone q lines line c.advance.new.stage b in
    (st.0, subst P e (h st.0 lines st.1)))
    c.advance.ensures

pub returns-clause-refused : goal.returns-clause-refused
returns-clause-refused c =
    let j = c.args.self.now in
    let q = asked j.case.now j.axioms.now in
    let line = c.args.line.now in
    IfOk-weaker c.advance.result
    (λ good. IsAsked q → (lines : List (List ℕ)) → StandsAt q j.stage lines → HasGone q lines line c.advance.new.stage good)
    (λ good. good ≡ false → (lines : List (List ℕ)) → Stands q j.stage lines → BeginsLifted q (lines ++ line ∷ []) → ⊥)
    (λ good h e lines st.
    let P : Bool → Type 0 = λ b. HasGone q lines line c.advance.new.stage b in
    subst P e (h st.0 lines st.1))
    c.advance.ensures
