use Rattle.std.specs.Prelude.{Contains}
use Rattle.pc_ground.specs.{Literals.{IsPresent, IsConsistent}, declared.literal.Literal.TheVariants.{Node, NoNode}}
use Rattle.order_graph.proofs.{IsClash.{node_clash, no_node_clash}, OneMore.{more}, ClashOf.{node_told, no_node_told, absence_told}}
use Rattle.order_graph.proofs.clashes.clash_of.Goals as goal

pub returns-in-Node : goal.returns-in-Node
returns-in-Node c =
    let ls = c.args.literals.now in let a = c.in-Node.a in
    let a_in = rw c.in-Node.is at c.requires.below in
    rw c.in-Node.is
    (absence_told (Contains ls (NoNode a)) (IsConsistent (more ls (Node a))) c.is_missing.result (more ls (Node a)) a c.absence.result c.absence.ensures
    (rw c.is_missing.ensures (node_told c.args.nodes c.args.table.now ls a c.requires.represents a_in)) (node_clash ls a))

pub returns-in-NoNode : goal.returns-in-NoNode
returns-in-NoNode c =
    let ls = c.args.literals.now in let a = c.in-NoNode.a in
    let a_in = rw c.in-NoNode.is at c.requires.below in
    rw c.in-NoNode.is
    (absence_told (IsPresent ls a) (IsConsistent (more ls (NoNode a))) c.is_present.result (more ls (NoNode a)) a c.absence-in-NoNode.result
    c.absence-in-NoNode.ensures
    (rw c.is_present.ensures (no_node_told c.args.nodes c.args.table.now ls a c.requires.represents a_in)) (no_node_clash ls a))
