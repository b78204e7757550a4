use Rattle.std.proofs.Common.{◌*◌}
use Rattle.order_graph.specs.Rows.{JoinsNoneFrom}
use Rattle.order_graph.proofs.clashes.word_joins_denied.Given as goal

abbrev pub invariant-loop-x : goal.invariant-loop-x
invariant-loop-x l = JoinsNoneFrom l.nodes l.table l.a l.b (64 * l.word) l.x
