use Rattle.pc_ground.proofs.UnfoldedTruth.{closed_ground_tree_true}
use Rattle.pc_ground.proofs.laws.tree_says_closed.Goals as goal

pub returns : goal.returns
returns c = closed_ground_tree_true
