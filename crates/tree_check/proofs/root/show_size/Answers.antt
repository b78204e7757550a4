use Rattle.tree_check.proofs.OrRows.{root_inside}
use Rattle.tree_check.proofs.root.show_size.Goals as goal

pub returns-clause-root : goal.returns-clause-root
returns-clause-root c = root_inside c.args.tree.now c.len.ensures.one_tree
