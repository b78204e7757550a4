use Rattle.std.proofs.Common.{refl}
use Rattle.cert_check.proofs.Advances.{tree_begins}
use Rattle.cert_check.proofs.open_tree.OpenTree.new.Goals as goal

pub returns : goal.returns
returns c = λ q grounded lines are text is.
    tree_begins q grounded.asked lines text _ refl are is (c.in_ok-new.ensures q.tree grounded.rows_are)
