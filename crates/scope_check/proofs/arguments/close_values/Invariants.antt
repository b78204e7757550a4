-- The arguments up to here have no fault, and those that have a name are closed.
use Rattle.scope_check.proofs.Walks.{AreBoundTo}
use Rattle.scope_check.proofs.arguments.close_values.Given as goal

abbrev pub invariant-loop-k : goal.invariant-loop-k
invariant-loop-k l = AreBoundTo l.scope l.names l.args l.k l.closed
