use Rattle.std.{proofs.{Common.{List, ℕ, ◌++◌, subst}, lemmas.Result.{IfOk-weaker}}, specs.Prelude.{IsTrue}}
use Rattle.cert_check.specs.{Certificates.{Question}, Questions.{question_of, question_of_parts}, Verified.{Verified}}
use Rattle.verify_command.{specs.Reading.{IsEnough}, proofs.FirstLine.{same_question}}
use Rattle.verify_command.proofs.checking.check_grounded.Goals as goal

pub returns-clause-verified : goal.returns-clause-verified
returns-clause-verified g c =
    let front = c.in_ok-front.front in
    let left = (g.F.Files.view c.args.files.now).left in
    let text : List ℕ = c.args.first.now ++ left in
    IfOk-weaker c.check_any-checked.result
    (λ found. IsTrue (g.F.Files.view c.args.files.now).modelled → IsEnough c.args.first.now left → Verified (question_of front) text found)
    (λ found. IsTrue (g.F.Files.view c.args.files.now).modelled → IsEnough c.args.first.now left → Verified (question_of_parts c.args.parts) text found)
    (λ found h told enough.
    let P : Question → Type 0 = λ q. Verified q text found in
    subst P (same_question front c.args.parts c.in_ok-front.ensures.case c.in_ok-front.ensures.stages c.in_ok-front.ensures.axioms) (h told enough))
    c.check_any-checked.ensures.verified
