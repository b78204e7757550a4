use Rattle.pc_ground.proofs.Walks.{walk_side}
use Rattle.pc_ground.proofs.laws.walk_is_asserted.Goals as goal

pub returns : goal.returns
returns c = walk_side
