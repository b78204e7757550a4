use Rattle.std.proofs.{Common.{◌≡◌, ℕ, List, ◌∷◌, Some, None, sym, subst}, lemmas.Result.{IfOk-weaker}}
use Rattle.pc_ground.specs.Words.{words}
use Rattle.lifted_facts.specs.{Lifted.{HasAdvanced}, Steps.{plain_step}, Opens.{opens_at}}
use Rattle.lifted_check.specs.{StepLines.{keyword_text}, Decoding.{decoded}, Stages.{IsCase, HasSteppedOn}}
use Rattle.lifted_check.proofs.TakenLines.{not_taken, no_numbers, no_decoded, numbers_taken}
use Rattle.lifted_check.proofs.next.take_numbers.Goals as goal

pub returns-then-not-branch-clause-stepped : goal.returns-then-not-branch-clause-stepped
returns-then-not-branch-clause-stepped c = λ line kept e.
    let old = c.args.branches.now in
    not_taken old.case.now line (opens_at old) (opens_at old)
    (no_numbers old.case.now.ops line c.args.keyword (words c.args.rest.now) c.requires e
    (rw c.if-not-branch.true at c.in_ok-read_numbers.ensures))

pub returns-in-Some-clause-stepped : goal.returns-in-Some-clause-stepped
returns-in-Some-clause-stepped c =
    let old = c.args.branches.now in let new = c.take.new.self in
    let d = old.case.now in
    let k = c.args.keyword in let s = plain_step c.in-Some.step in
    let read = rw c.if-not-branch.false at c.in_ok-read_numbers.ensures in
    let D : List ℕ → Type 0 = λ ns. Some s ≡ decoded k ns in
    let is = subst D c.deref.ensures.value c.in-Some.ensures in
    IfOk-weaker c.take.result
    (λ good. HasAdvanced d s (opens_at old) (opens_at new) good)
    (λ good. (line : List ℕ) → IsCase d → words line ≡ keyword_text k ∷ words c.args.rest.now
    → HasSteppedOn d line (opens_at old) (opens_at new) good)
    (λ good h line kept e.
    numbers_taken d line k (words c.args.rest.now) c.read_numbers.new.row.items s (opens_at old) (opens_at new) good h kept e read is)
    c.take.ensures.advanced

pub returns-in-None-clause-stepped : goal.returns-in-None-clause-stepped
returns-in-None-clause-stepped c = λ line kept e.
    let old = c.args.branches.now in let k = c.args.keyword in
    let read = rw c.if-not-branch.false at c.in_ok-read_numbers.ensures in
    let D : List ℕ → Type 0 = λ ns. None ≡ decoded k ns in
    let none = subst D c.deref.ensures.value c.in-None.ensures in
    not_taken old.case.now line (opens_at old) (opens_at old)
    (no_decoded old.case.now.ops line k (words c.args.rest.now) c.read_numbers.new.row.items c.requires e read.0 read.1 (sym none))
