use Rattle.cert_check.specs.{Fed.{IsFed}, Questions.{question_of}}
use Rattle.verify_command.proofs.OneVerdict.{file_verified}
use Rattle.verify_command.proofs.checking.check_any.Goals as goal

pub returns-clause-verified : goal.returns-clause-verified
returns-clause-verified g c = λ told enough.
    file_verified IsFed c.in_ok-finish.field-0 c.in_ok-checker.ensures (c.in_ok-checker-2.ensures.took told enough)
    (λ text rest is fed. c.in_ok-finish.ensures.verified (question_of c.args.front.now) text fed)
