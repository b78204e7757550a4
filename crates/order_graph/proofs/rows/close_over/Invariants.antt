use Rattle.std.proofs.Common.{◌+◌, ◌≤◌}
use Rattle.order_graph.{specs.Rows.{row_words, words_gained}, proofs.CloseOver.{AreClosedBelow}}
use Rattle.order_graph.proofs.rows.close_over.Given as goal

abbrev pub invariant-loop-x : goal.invariant-loop-x
invariant-loop-x g l = record {
  closing : AreClosedBelow l.initial.table l.table l.a l.b l.x;
  room : l.initial.table.room ≤ l.table.room + words_gained l.initial.table l.a l.b (row_words l.initial.table l.is_sink) l.x;
  cost : l.steps ≤ l.initial.steps + l.x;
}
