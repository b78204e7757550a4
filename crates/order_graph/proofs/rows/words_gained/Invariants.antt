use Rattle.std.proofs.Common.{◌≡◌, ◌*◌, ◌≤◌, ◌^◌}
use Rattle.order_graph.specs.Rows.{words_gained}
use Rattle.order_graph.proofs.rows.words_gained.Given as goal

abbrev pub invariant-loop-x : goal.invariant-loop-x
invariant-loop-x l = record {
  value : l.words ≡ words_gained l.table l.a l.b l.each l.x;
  bound : l.words ≤ l.x * 2 ^ 32;
}
