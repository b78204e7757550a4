-- The numbered nodes are those of the first keys.
use Rattle.std.{proofs.Common.{map, take, Contains}, specs.Prelude.{◌↔◌}}
use Rattle.pc_common.specs.World.{Node}
use Rattle.pc_ground.specs.Keys.{key_node}
use Rattle.graph_check.proofs.order.number_all.Given as goal

abbrev pub invariant-loop-key : goal.invariant-loop-key
invariant-loop-key l = (a : Node) → Contains l.nodes a ↔ Contains (map key_node (take l.key-index l.keys)) a
