use Rattle.std.proofs.lemmas.Bool.{false≢true}
use Rattle.pc_common.specs.declared.limits.TheConstants.{MAX_CERTIFICATE}
use Rattle.cert_check.proofs.{Judged.{own_decided}}
use Rattle.cert_check.proofs.graph_checker.GraphChecker.feed.Goals as goal

pub returns-clause-took : goal.returns-clause-took
returns-clause-took c = λ q text fed.
    record { start = fed.start; asks = fed.asks; readable = fed.readable; taken = c.in_ok-feed.ensures.took fed.start MAX_CERTIFICATE text fed.taken }

pub returns-in_err-feed-clause-settled : goal.returns-in_err-feed-clause-settled
returns-in_err-feed-clause-settled c = λ q text fed settled.
    absurd (false≢true (c.in_err-feed.ensures.sure fed.start MAX_CERTIFICATE text fed.taken (own_decided q fed.start.subject fed.asks text _ settled)))
