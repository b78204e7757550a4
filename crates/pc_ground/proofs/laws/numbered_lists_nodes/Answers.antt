use Rattle.pc_ground.proofs.FirstSeen.{numbered_lists}
use Rattle.pc_ground.proofs.laws.numbered_lists_nodes.Goals as goal

pub returns : goal.returns
returns c = numbered_lists
