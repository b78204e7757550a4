use Rattle.std.{proofs.Common.{arith}, specs.Prelude.{Contains}}
use Rattle.pc_common.specs.Chain.{Chain}
use Rattle.pc_ground.specs.{Literals.{Joins, IsPresent, IsConsistent}, declared.literal.Literal.TheVariants.{Node, NoNode, NoEdge}}
use Rattle.order_graph.{specs.declared.clash.Clash.TheVariants.{Absent}, proofs.IsClash.{node_clash, no_node_clash, clashes_refute}}
use Rattle.order_graph.proofs.{OneMore.{more, newest, chain_older}, ClashOf.{node_told, no_node_told, no_edge_told, refuted}}
use Rattle.order_graph.proofs.clashes.would_clash.Goals as goal

pub returns-in-Node : goal.returns-in-Node
returns-in-Node c = λ ls s.
    let a_in = rw c.in-Node.is at c.requires.below in
    rw (c.is_missing.ensures, c.in-Node.is)
    (refuted (Contains ls (NoNode c.in-Node.a)) (IsConsistent (more ls (Node c.in-Node.a))) _
    (node_told c.args.nodes c.args.table.now ls c.in-Node.a s a_in)
    (λ h. clashes_refute (more ls (Node c.in-Node.a)) (Absent c.in-Node.a) (node_clash ls c.in-Node.a h)))

pub returns-in-NoNode : goal.returns-in-NoNode
returns-in-NoNode c = λ ls s.
    let a_in = rw c.in-NoNode.is at c.requires.below in
    rw (c.is_present.ensures, c.in-NoNode.is)
    (refuted (IsPresent ls c.in-NoNode.a) (IsConsistent (more ls (NoNode c.in-NoNode.a))) _
    (no_node_told c.args.nodes c.args.table.now ls c.in-NoNode.a s a_in)
    (λ h. clashes_refute (more ls (NoNode c.in-NoNode.a)) (Absent c.in-NoNode.a) (no_node_clash ls c.in-NoNode.a h)))

pub returns-in-NoEdge : goal.returns-in-NoEdge
returns-in-NoEdge c = λ ls s.
    let a = c.in-NoEdge.a in let b = c.in-NoEdge.b in
    let below = rw c.in-NoEdge.is at c.requires.below in
    let wide = c.requires.sized.1 in
    rw (c.reaches.ensures, c.in-NoEdge.is)
    (refuted (Chain (Joins ls) a b) (IsConsistent (more ls (NoEdge a b))) _
    (no_edge_told c.args.nodes c.args.table.now ls a b s below.0 (let h = below.1 in omega arith))
    (λ h k. k.apart a b (newest ls (NoEdge a b)) (chain_older ls (NoEdge a b) a b h)))
