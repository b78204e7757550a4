use Rattle.std.proofs.Common.{◌*◌}
use Rattle.order_graph.specs.Rows.{JoinsNoneFrom}
use Rattle.order_graph.proofs.clashes.joins_denied.Given as goal

abbrev pub invariant-loop-word : goal.invariant-loop-word
invariant-loop-word l = JoinsNoneFrom l.nodes l.table l.a l.b 0 (64 * l.word)
