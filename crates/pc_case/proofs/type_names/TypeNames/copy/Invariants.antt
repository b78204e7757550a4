use Rattle.std.proofs.Common.{◌≡◌, take}
use Rattle.pc_case.proofs.type_names.TypeNames.copy.Given as goal

abbrev pub invariant-loop-k : goal.invariant-loop-k
invariant-loop-k l = l.copies ≡ take l.k l.fn.self
