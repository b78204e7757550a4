use Rattle.std.proofs.{Common.{◌≡◌, ℕ, List, ◌∷◌}, lemmas.Result.{IfOk-weaker}}
use Rattle.pc_ground.specs.Words.{words}
use Rattle.lifted_facts.specs.Opens.{opens_at}
use Rattle.lifted_check.specs.{StepLines.{keyword_text}, Stages.{IsCase, HasSteppedOn}, declared.keyword.Keyword.TheVariants.{Inst as InstWord}}
use Rattle.lifted_check.proofs.next.take_line.Goals as goal

pub returns-in-Inst-clause-stepped : goal.returns-in-Inst-clause-stepped
returns-in-Inst-clause-stepped c =
    let d = c.args.case.now in let old = c.args.branches.now in let new = c.take_instance.new.branches in
    IfOk-weaker c.take_instance.result
    (λ good. (line : List ℕ) → IsCase d → old.case.now ≡ d → words line ≡ keyword_text InstWord ∷ words c.in-Some.rest.now
    → HasSteppedOn d line (opens_at old) (opens_at new) good)
    (λ good. IsCase d → old.case.now ≡ d → HasSteppedOn d c.args.line.now (opens_at old) (opens_at new) good)
    (λ good h kept same. h c.args.line.now kept same (rw c.in-Inst.is at c.in-Some.ensures))
    c.take_instance.ensures.stepped
