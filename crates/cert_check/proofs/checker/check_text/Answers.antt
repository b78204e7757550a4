use Rattle.std.proofs.Common.{[]}
use Rattle.cert_check.specs.Questions.{question_of}
use Rattle.cert_check.proofs.checker.check_text.Goals as goal

pub returns-clause-outcome : goal.returns-clause-outcome
returns-clause-outcome c =
    c.finish.ensures.outcome c.args.front.now c.args.bytes.now (c.in_ok-feed.ensures.took (question_of c.args.front.now) [] c.in_ok-new.ensures)
