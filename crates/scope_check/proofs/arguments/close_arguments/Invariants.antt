-- The arguments up to here have no fault, and are closed.
use Rattle.pc_syntax.specs.Predicates.{takes_of}
use Rattle.scope_check.proofs.Walks.{AreClosedTo}
use Rattle.scope_check.proofs.arguments.close_arguments.Given as goal

abbrev pub invariant-loop-k : goal.invariant-loop-k
invariant-loop-k l = AreClosedTo l.scope (takes_of l.pred) l.args l.k l.closed
