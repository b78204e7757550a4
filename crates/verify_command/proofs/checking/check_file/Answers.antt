use Rattle.std.{proofs.{Common.{◌≡◌, List, ℕ, Some, ◌++◌}, lemmas.Result.{IfOk-weaker}}, specs.Prelude.{IsTrue}}
use Rattle.cert_check.specs.{Questions.{question_of_parts}, Verified.{Verified}}
use Rattle.verify_command.specs.Reading.{IsEnough}
use Rattle.verify_command.proofs.checking.check_file.Goals as goal

pub returns-clause-verified : goal.returns-clause-verified
returns-clause-verified g c =
    let first = c.in_ok-first.first.items in
    let left = (g.F.Files.view c.first_bytes.new.files).left in
    IfOk-weaker c.check_started.result
    (λ found. IsTrue (g.F.Files.view c.first_bytes.new.files).modelled → IsEnough first left → Verified (question_of_parts c.args.parts) (first ++ left) found)
    (λ found. IsTrue (g.F.Files.view c.args.files.now).modelled → (bytes : List ℕ) × ((g.F.Files.view c.args.files.now).holds c.args.name.now ≡ Some bytes)
    × Verified (question_of_parts c.args.parts) bytes found)
    (λ found h told. (
      first ++ left,
      c.in_ok-first.ensures.whole told,
      h (rw c.first_bytes.ensures.keeps.same_modelled told) (c.in_ok-first.ensures.enough told),
    ))
    (rw c.deref.ensures.value at c.check_started.ensures.verified)
