use Rattle.std.proofs.Common.{◌-◌, true, false, sym, ◌∙◌, ap}
use Rattle.pc_syntax.specs.Closed.{plain_closed}
use Rattle.lifter.{specs.Kinds.{kind_over}, proofs.AtomTrees.{nodes_held, nodes_denied, edges_held, edges_denied}}
use Rattle.lifter.proofs.said_kind.kind_of_said.Goals as goal

pub returns-then-said-3 : goal.returns-then-said-3
returns-then-said-3 c =
    let s = c.args.said.now in
    c.kind_of_count.ensures ∙ ap (kind_over true) c.len.ensures.value
    ∙ sym (nodes_held c.args.case.now s.env.items c.requires.1 (plain_closed s.formula.now) c.in-Nodes.nodes s.start s.plus
    (ap plain_closed c.in-Nodes.is) c.requires.0 c.if-said-3.true)

pub returns-else-said-3 : goal.returns-else-said-3
returns-else-said-3 c =
    let s = c.args.said.now in
    c.kind_of_count-else-said-3.ensures ∙ ap (kind_over false) (c.left.ensures ∙ ap (λ n. n - s.start) c.len-else-said-3.ensures.value)
    ∙ sym (nodes_denied c.args.case.now s.env.items c.requires.1 (plain_closed s.formula.now) c.in-Nodes.nodes s.start
    s.plus (ap plain_closed c.in-Nodes.is) c.requires.0 c.if-said-3.false)

pub returns-then-said-4 : goal.returns-then-said-4
returns-then-said-4 c =
    let s = c.args.said.now in
    c.kind_of_count-then-said-4.ensures ∙ ap (kind_over true) c.len-then-said-4.ensures.value
    ∙ sym (edges_held c.args.case.now s.env.items c.requires.1 (plain_closed s.formula.now) c.in-Edges.edges s.start s.plus
    (ap plain_closed c.in-Edges.is) c.requires.0 c.if-said-4.true)

pub returns-else-said-4 : goal.returns-else-said-4
returns-else-said-4 c =
    let s = c.args.said.now in
    c.kind_of_count-else-said-4.ensures ∙ ap (kind_over false) (c.left-else-said-4.ensures ∙ ap (λ n. n - s.start) c.len-else-said-4.ensures.value)
    ∙ sym (edges_denied c.args.case.now s.env.items c.requires.1 (plain_closed s.formula.now) c.in-Edges.edges s.start
    s.plus (ap plain_closed c.in-Edges.is) c.requires.0 c.if-said-4.false)
