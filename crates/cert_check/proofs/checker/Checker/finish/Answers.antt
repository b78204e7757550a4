use Rattle.pc_common.specs.declared.limits.TheConstants.{MAX_CERTIFICATE}
use Rattle.cert_check.{specs.Questions.{question_of}, proofs.{Outcomes.{outcome_holds}, Verified.{whole_verified, refused_verified}}}
use Rattle.cert_check.proofs.checker.Checker.finish.Goals as goal

pub returns-in-Whole-clause-verified : goal.returns-in-Whole-clause-verified
returns-in-Whole-clause-verified c = λ q text fed.
    let end = c.in-Whole.ensures fed.start MAX_CERTIFICATE text fed.taken in
    rw c.verdict.ensures (whole_verified q fed.start c.in-Whole.judge fed.asks text end.0 end.1)

pub returns-in-Whole-clause-outcome : goal.returns-in-Whole-clause-outcome
returns-in-Whole-clause-outcome c = λ front text fed.
    let end = c.in-Whole.ensures fed.start MAX_CERTIFICATE text fed.taken in
    let q = question_of front in
    rw c.verdict.ensures (outcome_holds front text _ (whole_verified q fed.start c.in-Whole.judge fed.asks text end.0 end.1))

pub returns-in-Refused-clause-verified : goal.returns-in-Refused-clause-verified
returns-in-Refused-clause-verified c = λ q text fed.
    refused_verified q fed.asked.readable fed.start fed.asks text (λ says. (fed.tree, fed.asked)) c.in-Refused.line
    (c.in-Refused.ensures fed.start MAX_CERTIFICATE text fed.taken)
