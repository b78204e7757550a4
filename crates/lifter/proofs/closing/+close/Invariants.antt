-- Each part and each side has a lower rank.
use Rattle.lifted_facts.specs.PlainFacts.{plain_fact}
use Rattle.lifter.proofs.Ranks.{rank}
use Rattle.lifter.proofs.closing.+close.Given as goal

abbrev pub decreases-close : goal.decreases-close
decreases-close l = rank l.case.now (plain_fact l.fact.now)
