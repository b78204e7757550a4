-- The axioms before this one were tried.
use Rattle.pc_ground.specs.Stages.{plain_axioms}
use Rattle.axiom_core.specs.Choices.{IsTried}
use Rattle.axiom_core.proofs.shrinking.try_all.Given as goal

abbrev pub invariant-loop-at : goal.invariant-loop-at
invariant-loop-at g l = IsTried l.front.case (plain_axioms l.front.axioms) l.flags l.at
