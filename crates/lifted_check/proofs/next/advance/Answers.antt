use Rattle.std.proofs.{Common.{◌≡◌, ℕ, List, true, false, refl, subst}, lemmas.Result.{IfOk-weaker}}
use Rattle.pc_common.proofs.Bools.{clash}
use Rattle.lifted_facts.specs.Opens.{opens_at}
use Rattle.lifted_check.specs.{LiftedTexts.{asked}, Stages.{IsAsked, IsCase, StandsAt, AreStepsSoFar, HasGone, HasSteppedOn}, declared.stage.Stage.{Stage}}
use Rattle.lifted_check.{specs.declared.stage.Stage.TheVariants.{Steps}, proofs.Texts.{no_more, steps_gone}}
use Rattle.lifted_check.proofs.next.advance.Goals.{in-Start, in-First, in-Second+in_ok-next-in-Second, in-Steps+else-not-is_last, in-Ended}
use Rattle.lifted_check.proofs.next.advance.Goals as goal

pub returns-then-not-is_last : goal.returns-then-not-is_last
returns-then-not-is_last c =
    let q = asked c.args.case.now c.args.axioms.now in
    let line = c.args.line.now in let old = c.in-Steps.branches in let new = c.take_line.new.branches in
    IfOk-weaker c.take_line.result
    (λ good. IsCase c.args.case.now → old.case.now ≡ c.args.case.now → HasSteppedOn c.args.case.now line (opens_at old) (opens_at new) good)
    (λ good. IsAsked q → (lines : List (List ℕ)) → StandsAt q c.args.stage.now lines → HasGone q lines line (Steps new) good)
    (λ good h kept lines st.
    let P : Stage → Type 0 = λ s. StandsAt q s lines in
    let so_far : AreStepsSoFar q old lines = subst P c.in-Steps.is st in
    steps_gone q kept old new lines line so_far (λ e. clash (c.is_last.ensures.1 e) c.if-not-is_last.true) c.take_line.ensures.case good (h kept so_far.case))
    c.take_line.ensures.stepped

pub returns : goal.returns
returns c = λ kept lines st.
    let q = asked c.args.case.now c.args.axioms.now in
    let P : Stage → Type 0 = λ s. StandsAt q s lines in
    c.go_on.ensures q lines c.args.line.now (elim c.match-stage.branch [
      | in-Start w ↦ rw w.next-is (w.after_start-next.ensures q lines (subst P w.in-Start.is st))
      | in-First w ↦ rw w.next-is (w.after_first-next.ensures q lines refl (subst P w.in-First.is st))
      | in-Second+in_ok-next-in-Second w ↦ rw w.next-is (w.in_ok-next-in-Second.ensures lines (subst P w.in-Second.is st))
      | in-Steps+else-not-is_last w ↦ rw (w.next-is, w.is_last.ensures.0 w.if-not-is_last.false)
          (w.end_steps-next.ensures q lines kept (subst P w.in-Steps.is st))
      | in-Ended w ↦ rw w.next-is (no_more q lines c.args.line.now (subst P w.in-Ended.is st))
    ])
