use Rattle.std.proofs.{Common.{◌≡◌, ℕ, List, ◌∷◌}, lemmas.Result.{IfOk-weaker}}
use Rattle.pc_ground.specs.Words.{words}
use Rattle.lifted_facts.specs.{declared.way.Way.TheVariants.{Inst as InstWay}, Lifted.{derive, HasAdvanced}, Opens.{opens_at}}
use Rattle.lifted_check.specs.{StepLines.{keyword_text}, Stages.{IsCase, HasSteppedOn}, declared.keyword.Keyword.TheVariants.{Inst as InstWord}}
use Rattle.lifted_check.proofs.TakenLines.{instance_taken, not_taken, no_instance}
use Rattle.lifted_check.proofs.next.take_instance.Goals as goal

pub returns-in-Some-clause-stepped : goal.returns-in-Some-clause-stepped
returns-in-Some-clause-stepped c =
    let d = c.args.case.now in let old = c.args.branches.now in let new = c.take.new.self in let k = c.in-Some.number in
    let v = c.in-Some.value in
    IfOk-weaker c.take.result
    (λ good. HasAdvanced old.case.now (derive (InstWay v) k) (opens_at old) (opens_at new) good)
    (λ good. (line : List ℕ) → IsCase d → old.case.now ≡ d → words line ≡ keyword_text InstWord ∷ words c.args.rest.now
    → HasSteppedOn d line (opens_at old) (opens_at new) good)
    (λ good h line kept same e.
    instance_taken d old.case.now line (words c.args.rest.now) k v (opens_at old) (opens_at new) good h kept same e c.in-Some.ensures)
    c.take.ensures.advanced

pub returns-in-None-clause-stepped : goal.returns-in-None-clause-stepped
returns-in-None-clause-stepped c = λ line kept same e.
    let d = c.args.case.now in
    not_taken d line (opens_at c.args.branches.now) (opens_at c.args.branches.now)
    (no_instance d.ops line (words c.args.rest.now) e c.in-None.ensures)
