use Rattle.std.proofs.Common.{◌≡◌, map, take}
use Rattle.pc_ground.specs.Keys.{key_node}
use Rattle.solver.specs.Renamed.{node_at}
use Rattle.solver.proofs.search.leaf.keys_of.Given as goal

abbrev pub invariant-loop-k : goal.invariant-loop-k
invariant-loop-k l = map key_node l.nodes ≡ map (node_at l.tree.nodes) (take l.k-index l.numbers)
