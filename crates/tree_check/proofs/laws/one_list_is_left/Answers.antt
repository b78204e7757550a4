use Rattle.tree_check.proofs.Runs.{runs_one}
use Rattle.tree_check.proofs.laws.one_list_is_left.Goals as goal

pub returns : goal.returns
returns c = runs_one
