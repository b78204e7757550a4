use Rattle.std.{proofs.{Common.{true, Some, inl, inr, refl, sym, subst}, lemmas.Result.{on_ok_weaker}}, specs.Prelude.{OnOk}}
use Rattle.pc_ground.specs.{Keys.{key_node, literal_node}, Rows.{IsPart}, Tree.{leaf}, declared.literal.Literal.{Literal, TheVariants.{Edge as an_edge}}}
use Rattle.pc_ground.specs.declared.node_key.NodeKey.{NodeKey}
use Rattle.lifted_facts.specs.PlainFacts.{one_node, one_edge}
use Rattle.refutation.specs.BranchFacts.{edge, present}
use Rattle.lifter.{specs.{States.{branch_of}, Unfoldings.{HasUnfolded}}, proofs.StateMoves.{moves_then, moved_fact}}
use Rattle.lifter.proofs.UnfoldedFacts.{both_ok, literal_unfolded, literal_marked, fact_as}
use Rattle.lifter.proofs.unfolding.mark_literal.Goals as goal

pub mark-requires : goal.mark-requires
mark-requires c =
    let has = fact_as (branch_of c.args.state.now) c.args.number c.in-Node.is c.requires.has in
    (c.args.tree.now, (one_node true (Some (key_node c.in-Node.a)), has, refl))

pub returns-in-Node : goal.returns-in-Node
returns-in-Node c =
    let rows = c.args.tree.now in
    literal_marked c.args.case.now rows c.args.state.now c.mark.new.state c.args.number c.args.at c.mark.result c.in-Node.is c.requires.has c.requires.stands
    (on_ok_weaker c.mark.result (λ go has. go rows (one_node true (Some (key_node c.in-Node.a)), has, refl)) c.mark.ensures.moves)
    (on_ok_weaker c.mark.result (λ key. (key, tt)) c.mark.ensures.has)

pub mark-requires-in-Edge : goal.mark-requires-in-Edge
mark-requires-in-Edge c = (c.args.tree.now, fact_as (branch_of c.args.state.now) c.args.number c.in-Edge.is c.requires.has)

pub mark-requires-in-Edge-2 : goal.mark-requires-in-Edge-2
mark-requires-in-Edge-2 c =
    let rows = c.args.tree.now in let s = c.args.state.now in let n = c.args.number in
    let has = fact_as (branch_of s) n c.in-Edge.is c.requires.has in
    let f = one_edge true (Some (key_node c.in-Edge.a)) (Some (key_node c.in-Edge.b)) in
    let one = c.in_ok-mark-in-Edge.ensures.moves rows has in
    (rows, (f, moved_fact c.args.case.now rows s c.mark-in-Edge.new.state n f one has, inl refl))

pub mark-requires-in-Edge-3 : goal.mark-requires-in-Edge-3
mark-requires-in-Edge-3 c =
    let case = c.args.case.now in let rows = c.args.tree.now in let s = c.args.state.now in let n = c.args.number in
    let has = fact_as (branch_of s) n c.in-Edge.is c.requires.has in
    let f = one_edge true (Some (key_node c.in-Edge.a)) (Some (key_node c.in-Edge.b)) in
    let one = c.in_ok-mark-in-Edge.ensures.moves rows has in
    let first = moved_fact case rows s c.mark-in-Edge.new.state n f one has in
    let two = c.in_ok-mark-in-Edge-2.ensures.moves rows (f, first, inl refl) in
    (rows, (f, moved_fact case rows c.mark-in-Edge.new.state c.mark-in-Edge-2.new.state n f two first, inr refl))

pub returns-in_ok-mark-in-Edge-2 : goal.returns-in_ok-mark-in-Edge-2
returns-in_ok-mark-in-Edge-2 c =
    let case = c.args.case.now in let rows = c.args.tree.now in let s = c.args.state.now in let n = c.args.number in
    let S : Literal NodeKey → Type 0 = λ l. IsPart rows c.args.at (leaf (literal_node l)) in
    let U : Literal NodeKey → Type 0 = λ l. OnOk c.mark-in-Edge-3.result
    (HasUnfolded case rows (leaf (literal_node l)) c.args.at s c.mark-in-Edge-3.new.state) in
    let has = fact_as (branch_of s) n c.in-Edge.is c.requires.has in
    let here = subst S c.in-Edge.is c.requires.stands in
    let x = key_node c.in-Edge.a in let y = key_node c.in-Edge.b in
    let f = one_edge true (Some x) (Some y) in
    let s1 = c.mark-in-Edge.new.state in let s2 = c.mark-in-Edge-2.new.state in let s3 = c.mark-in-Edge-3.new.state in
    let one = c.in_ok-mark-in-Edge.ensures.moves rows has in
    let first = moved_fact case rows s s1 n f one has in
    let two = c.in_ok-mark-in-Edge-2.ensures.moves rows (f, first, inl refl) in
    let second = moved_fact case rows s1 s2 n f two first in
    subst U (sym c.in-Edge.is) (both_ok c.mark-in-Edge-3.result
    (λ moves key.
    let three = moves rows (f, second, inr refl) in
    literal_unfolded case rows s s3 (an_edge x y) c.args.at here (moves_then case rows s s2 s3 (moves_then case rows s s1 s2 one two) three) (
      three.keys (edge x y) (two.keys (edge x y) c.in_ok-mark-in-Edge.ensures.has),
      (three.keys (present x) c.in_ok-mark-in-Edge-2.ensures.has, (key, tt)),
    ))
    c.mark-in-Edge-3.ensures.moves c.mark-in-Edge-3.ensures.has)

pub mark-requires-in-NoNode : goal.mark-requires-in-NoNode
mark-requires-in-NoNode c = (c.args.tree.now, fact_as (branch_of c.args.state.now) c.args.number c.in-NoNode.is c.requires.has)

pub returns-in-NoNode : goal.returns-in-NoNode
returns-in-NoNode c =
    let rows = c.args.tree.now in let r = c.mark-in-NoNode.result in
    literal_marked c.args.case.now rows c.args.state.now c.mark-in-NoNode.new.state c.args.number c.args.at r c.in-NoNode.is c.requires.has c.requires.stands
    (on_ok_weaker r (λ go. go rows) c.mark-in-NoNode.ensures.moves) (on_ok_weaker r (λ key. (key, tt)) c.mark-in-NoNode.ensures.has)

pub mark-requires-in-NoEdge : goal.mark-requires-in-NoEdge
mark-requires-in-NoEdge c = (c.args.tree.now, fact_as (branch_of c.args.state.now) c.args.number c.in-NoEdge.is c.requires.has)

pub returns-in-NoEdge : goal.returns-in-NoEdge
returns-in-NoEdge c =
    let rows = c.args.tree.now in let r = c.mark-in-NoEdge.result in
    literal_marked c.args.case.now rows c.args.state.now c.mark-in-NoEdge.new.state c.args.number c.args.at r c.in-NoEdge.is c.requires.has c.requires.stands
    (on_ok_weaker r (λ go. go rows) c.mark-in-NoEdge.ensures.moves) (on_ok_weaker r (λ key. (key, tt)) c.mark-in-NoEdge.ensures.has)
