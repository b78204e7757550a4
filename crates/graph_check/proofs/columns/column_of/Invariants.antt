-- The flags of the first nodes in order are worked out.
use Rattle.graph_check.proofs.ColumnFlags.{AreFlags}
use Rattle.graph_check.proofs.columns.column_of.Given as goal

abbrev pub invariant-loop-a : goal.invariant-loop-a
invariant-loop-a l = AreFlags l.adjacency l.b l.order l.column.items l.a-index
