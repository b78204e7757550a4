use Rattle.std.proofs.Common.{◌≡◌, take}
use Rattle.pc_case.proofs.dependency.copy_listed.Given as goal

abbrev pub invariant-loop-dependency : goal.invariant-loop-dependency
invariant-loop-dependency l = l.copies ≡ take l.dependency-index l.dependency-items
