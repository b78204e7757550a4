use Rattle.std.proofs.Common.{map}
use Rattle.pc_ground.specs.Keys.{key_node}
use Rattle.solver.specs.Shown.{ArePresent}
use Rattle.solver.proofs.search.answer.present_nodes.Given as goal

abbrev pub invariant-loop-k : goal.invariant-loop-k
invariant-loop-k l = ArePresent l.tree.nodes l.graph.literals l.k (map key_node l.nodes)
