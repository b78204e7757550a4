-- The nodes or edges up to here have no fault, and are closed.
use Rattle.scope_check.proofs.Walks.{IsClosedTo}
use Rattle.scope_check.proofs.nodes.close_list.Given as goal

abbrev pub invariant-loop-term : goal.invariant-loop-term
invariant-loop-term g l =
    IsClosedTo (g.T.Term.fault l.stages l.scope) (g.T.Term.closing l.stages l.scope) l.terms l.term-index l.closed
