use Rattle.std.proofs.Common.{◌≡◌, drop}
use Rattle.pattern_reader.proofs.Digits.{value_among}
use Rattle.pattern_reader.proofs.rows.value_for.Given as goal

abbrev pub invariant-loop-k : goal.invariant-loop-k
invariant-loop-k l = value_among l.reads l.row l.place ≡ value_among (drop l.k l.reads) l.row l.place
