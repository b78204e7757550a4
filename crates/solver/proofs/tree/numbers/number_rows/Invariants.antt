use Rattle.std.{proofs.Common.{◌≡◌, take, length}, specs.Prelude.{All}}
use Rattle.solver.specs.{Renamed.{rows_over}, Below.{IsRowBelow}}
use Rattle.solver.proofs.tree.numbers.number_rows.Given as goal

abbrev pub invariant-loop-k : goal.invariant-loop-k
invariant-loop-k l = record {
  is : rows_over l.numbering l.rows.items ≡ take l.k l.tree;
  below : All (IsRowBelow (length l.numbering)) l.rows.items;
}
