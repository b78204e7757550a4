use Rattle.std.proofs.Common.{◌≡◌, ◌≤◌, drop}
use Rattle.x86_litmus.specs.{Spots.{items_from, column_of}, Faults.{outcome_of, judged}, Reading.{items_in}, Plain.{plain_said, plain_spot}}
use Rattle.x86_litmus.proofs.read.read_items.Given as goal

abbrev pub invariant-loop-k : goal.invariant-loop-k
invariant-loop-k l = record {
  reads : outcome_of (items_in l.tokens) ≡ judged (plain_said l.said) (items_from (plain_spot l.spot) (drop l.k l.tokens));
  column : column_of (plain_spot l.spot) ≤ l.k;
}
