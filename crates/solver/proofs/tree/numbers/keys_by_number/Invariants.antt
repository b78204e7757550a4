use Rattle.std.proofs.Common.{◌≡◌, map, take}
use Rattle.pc_ground.specs.Keys.{key_node}
use Rattle.solver.proofs.tree.numbers.keys_by_number.Given as goal

abbrev pub invariant-loop-k : goal.invariant-loop-k
invariant-loop-k l = map key_node l.keys.items ≡ take l.k l.numbering
