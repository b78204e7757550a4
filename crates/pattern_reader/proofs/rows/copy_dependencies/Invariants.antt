use Rattle.std.proofs.Common.{◌≡◌, take}
use Rattle.pattern_reader.proofs.rows.copy_dependencies.Given as goal

abbrev pub invariant-loop-dependency : goal.invariant-loop-dependency
invariant-loop-dependency l = l.copies ≡ take l.dependency-index l.dependency-items
