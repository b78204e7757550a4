use Rattle.std.proofs.Common.{◌≡◌, ◌-◌, length}
use Rattle.solver.specs.{Spelled.{spelled}, Flags.{AreTruths}}
use Rattle.solver.proofs.search.truths.truths.Given as goal

-- told from the last position on
abbrev pub invariant-loop-k : goal.invariant-loop-k
invariant-loop-k l = record {
  count : length l.truths.items ≡ length l.rows;
  truths : AreTruths (spelled l.rows) l.graph.literals (length l.rows - l.k) l.truths.items;
}
