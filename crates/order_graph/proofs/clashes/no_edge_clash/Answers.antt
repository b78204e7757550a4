use Rattle.std.proofs.{Common.{inr, sym, ◌∙◌, arith}, lemmas.Bool.{MatchBool-at_true, MatchBool-at_false}}
use Rattle.pc_common.specs.Chain.{Chain}
use Rattle.pc_ground.specs.{declared.literal.Literal.TheVariants.{NoEdge}, Literals.{Joins, IsConsistent}}
use Rattle.order_graph.proofs.{IsClash.{no_edge_clash}, OneMore.{more}, ClashOf.{no_edge_told}}
use Rattle.order_graph.proofs.clashes.no_edge_clash.Goals as goal

pub returns-then-not-reaches : goal.returns-then-not-reaches
returns-then-not-reaches c =
    let ls = c.args.literals.now in let wide = c.requires.sized.1 in let b_in = c.requires.b_in in
    MatchBool-at_false (Chain (Joins ls) c.args.a c.args.b) (IsConsistent (more ls (NoEdge c.args.a c.args.b))) (sym c.reaches.ensures ∙ c.if-not-reaches.true)
    (no_edge_told c.args.nodes c.args.table.now ls c.args.a c.args.b c.requires.represents c.requires.a_in (omega arith))

pub way-requires-clause-there : goal.way-requires-clause-there
way-requires-clause-there c =
    let ls = c.args.literals.now in let wide = c.requires.sized.1 in let b_in = c.requires.b_in in
    inr
    (MatchBool-at_true (Chain (Joins ls) c.args.a c.args.b) (IsConsistent (more ls (NoEdge c.args.a c.args.b))) (sym c.reaches.ensures ∙ c.if-not-reaches.false)
    (no_edge_told c.args.nodes c.args.table.now ls c.args.a c.args.b c.requires.represents c.requires.a_in (omega arith)))

pub returns : goal.returns
returns c =
    let ls = c.args.literals.now in let wide = c.requires.sized.1 in let b_in = c.requires.b_in in
    let chain = MatchBool-at_true (Chain (Joins ls) c.args.a c.args.b) (IsConsistent (more ls (NoEdge c.args.a c.args.b)))
    (sym c.reaches.ensures ∙ c.if-not-reaches.false)
    (no_edge_told c.args.nodes c.args.table.now ls c.args.a c.args.b c.requires.represents c.requires.a_in (omega arith)) in
    rw c.from_vec.ensures (no_edge_clash ls c.args.a c.args.b c.in_ok-path.path.items c.requires.represents.consistent chain c.in_ok-path.ensures)
