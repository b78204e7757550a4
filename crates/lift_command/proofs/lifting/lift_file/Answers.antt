use Rattle.std.proofs.Common.{ap, Err}
use Rattle.cert_check.specs.Questions.{question_of}
use Rattle.lift_command.proofs.Taken.{past_limit}
use Rattle.lift_command.proofs.lifting.lift_file.Goals as goal

pub returns-in-Err-TooLarge-clause-found : goal.returns-in-Err-TooLarge-clause-found
returns-in-Err-TooLarge-clause-found g c = λ told.
    past_limit (question_of c.args.front.now) (c.in-Err-TooLarge.ensures.too_large (ap (λ x. Err x) c.in-Err-TooLarge.field-0-is) told)
