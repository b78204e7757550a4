-- The first names are bound, with the slots from here on for the rest.
use Rattle.scope_check.proofs.ScopeLists.{AreBoundUpTo}
use Rattle.scope_check.proofs.scope.Scope.enter_binding.Given as goal

abbrev pub invariant-loop-k : goal.invariant-loop-k
invariant-loop-k l = AreBoundUpTo l.self l.names l.args l.k l.inside
