use Rattle.pc_ground.proofs.TreeNodes.{nodes_are_of}
use Rattle.pc_ground.proofs.laws.nodes_are_named.Goals as goal

pub returns : goal.returns
returns c = nodes_are_of
