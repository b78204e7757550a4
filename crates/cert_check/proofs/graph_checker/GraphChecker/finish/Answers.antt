use Rattle.pc_common.specs.declared.limits.TheConstants.{MAX_CERTIFICATE}
use Rattle.cert_check.proofs.Verified.{whole_verified, refused_verified}
use Rattle.cert_check.proofs.graph_checker.GraphChecker.finish.Goals as goal

pub returns-in-Whole : goal.returns-in-Whole
returns-in-Whole c = λ q text fed other.
    let end = c.in-Whole.ensures fed.start MAX_CERTIFICATE text fed.taken in
    rw c.verdict.ensures (whole_verified q fed.start c.in-Whole.judge fed.asks text end.0 end.1)

pub returns-in-Refused : goal.returns-in-Refused
returns-in-Refused c = λ q text fed other.
    refused_verified q fed.readable fed.start fed.asks text (λ says. absurd (other says)) c.in-Refused.line
    (c.in-Refused.ensures fed.start MAX_CERTIFICATE text fed.taken)
