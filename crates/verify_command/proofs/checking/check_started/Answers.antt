use Rattle.std.{proofs.{Common.{◌≡◌, true, false, Bool, List, ℕ, ◌++◌, sym, ◌∙◌}, lemmas.Result.{IfOk-weaker}}, specs.Prelude.{IsTrue}}
use Rattle.cert_check.specs.{Questions.{question_of_parts}, GraphBegins.{SaysUnobservable}, Verified.{Verified}}
use Rattle.verify_command.{specs.Reading.{IsEnough}, proofs.FirstLine.{none_says}}
use Rattle.verify_command.proofs.checking.check_started.Goals as goal

clash : {b : Bool} → b ≡ true → b ≡ false → ⊥
clash t f = (let e : true ≡ false = sym t ∙ f in cc)

pub returns-clause-verified : goal.returns-clause-verified
returns-clause-verified g c =
    let left = (g.F.Files.view c.args.files.now).left in
    let text : List ℕ = c.args.first.now ++ left in
    IfOk-weaker c.check_graph-checked.result
    (λ found. IsTrue (g.F.Files.view c.args.files.now).modelled → IsEnough c.args.first.now left → (SaysUnobservable text → ⊥)
    → Verified (question_of_parts c.args.parts) text found)
    (λ found. IsTrue (g.F.Files.view c.args.files.now).modelled → IsEnough c.args.first.now left → Verified (question_of_parts c.args.parts) text found)
    (λ found h told enough.
    h told enough (none_says c.args.first.now left enough (λ says. clash (c.says_unobservable.ensures.1 says) c.if-says_unobservable.false)))
    c.check_graph-checked.ensures.verified
