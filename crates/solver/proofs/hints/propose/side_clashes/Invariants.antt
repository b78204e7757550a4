use Rattle.solver.specs.Opens.{IsFurther}
use Rattle.solver.proofs.hints.propose.side_clashes.Given as goal

abbrev pub invariant-loop-turn : goal.invariant-loop-turn
invariant-loop-turn g l = IsFurther l.fn.graph l.graph
