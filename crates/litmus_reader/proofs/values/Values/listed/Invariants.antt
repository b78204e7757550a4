use Rattle.std.proofs.Common.{◌≡◌, take}
use Rattle.litmus_reader.proofs.values.Values.listed.Given as goal

abbrev pub invariant-loop-k : goal.invariant-loop-k
invariant-loop-k l = l.lines ≡ take l.k l.self
