use Rattle.order_graph.proofs.Represents.{denies}
use Rattle.order_graph.proofs.rows.is_true.Goals as goal

pub returns-in-Node : goal.returns-in-Node
returns-in-Node c = λ ls s.
    let a_in = rw c.in-Node.is at c.requires.below in
    rw (c.is_present.ensures, c.in-Node.is) (s.present c.in-Node.a a_in)

pub returns-in-NoNode : goal.returns-in-NoNode
returns-in-NoNode c = λ ls s.
    let a_in = rw c.in-NoNode.is at c.requires.below in
    rw (c.is_present-in-NoNode.ensures, c.in-NoNode.is) (denies _ (s.present c.in-NoNode.a a_in))
