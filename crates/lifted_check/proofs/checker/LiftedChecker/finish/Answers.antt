use Rattle.pc_common.specs.declared.limits.TheConstants.{MAX_CERTIFICATE}
use Rattle.lifted_check.{specs.Fed.{lifted_of}, proofs.Outcomes.{outcome_holds, finished_found}}
use Rattle.lifted_check.proofs.checker.LiftedChecker.finish.Goals as goal

pub returns-clause-found : goal.returns-clause-found
returns-clause-found c = λ q text fed.
    rw c.lifted_of.ensures
    (finished_found q fed.start fed.asks text c.finish.result (c.finish.ensures fed.start MAX_CERTIFICATE text fed.taken))

pub returns-clause-outcome : goal.returns-clause-outcome
returns-clause-outcome c = λ q text fed.
    rw c.lifted_of.ensures
    (outcome_holds q text (lifted_of c.finish.result)
    (finished_found q fed.start fed.asks text c.finish.result (c.finish.ensures fed.start MAX_CERTIFICATE text fed.taken)))
