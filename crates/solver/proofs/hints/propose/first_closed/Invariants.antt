use Rattle.solver.specs.Opens.{IsSame}
use Rattle.solver.proofs.hints.propose.first_closed.Given as goal

abbrev pub invariant-loop-turn : goal.invariant-loop-turn
invariant-loop-turn g l = IsSame l.fn.graph l.graph
