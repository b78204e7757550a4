use Rattle.lifted_check.specs.LiftedTexts.{asked}
use Rattle.verify_command.proofs.OneAnswer.{file_found}
use Rattle.verify_command.proofs.lifted.check_lifted.Goals as goal

pub returns-clause-found : goal.returns-clause-found
returns-clause-found g c = λ told.
    file_found c.finish.result (rw c.as_slice.ensures.value at c.new-checker.ensures) (c.in_ok-checker.ensures.took told)
    (λ text fed. c.finish.ensures.found (asked c.args.parts.now.case c.args.parts.now.axioms) text fed)
