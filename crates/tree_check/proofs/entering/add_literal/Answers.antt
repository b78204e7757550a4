use Rattle.std.proofs.lemmas.Result.{on_ok_weaker}
use Rattle.tree_check.proofs.BranchFacts.{added_then}
use Rattle.tree_check.proofs.entering.add_literal.Goals as goal

pub returns-in-Node : goal.returns-in-Node
returns-in-Node c = rw c.in-Node.is c.add.ensures

pub returns-in_ok-add-in-Edge-2 : goal.returns-in_ok-add-in-Edge-2
returns-in_ok-add-in-Edge-2 c =
    rw c.in-Edge.is (on_ok_weaker c.add-in-Edge-3.result
    (λ h. added_then (added_then c.in_ok-add-in-Edge.ensures c.in_ok-add-in-Edge-2.ensures) h) c.add-in-Edge-3.ensures)

pub returns-in-NoNode : goal.returns-in-NoNode
returns-in-NoNode c = rw c.in-NoNode.is c.add-in-NoNode.ensures

pub returns-in-NoEdge : goal.returns-in-NoEdge
returns-in-NoEdge c = rw c.in-NoEdge.is c.add-in-NoEdge.ensures
