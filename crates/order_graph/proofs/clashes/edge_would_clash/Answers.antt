use Rattle.std.proofs.Common.{sym, ◌∙◌, arith}
use Rattle.pc_ground.specs.declared.literal.Literal.TheVariants.{Edge}
use Rattle.order_graph.{specs.declared.clash.Clash.TheVariants.{Absent}, proofs.{IsClash.{start_clash, end_clash, clashes_refute}, OneMore.{more}}}
use Rattle.order_graph.proofs.{Represents.{leads_reach}, TakesEdge.{known_consistent}, ClashOf.{back_refutes, pairs_told}}
use Rattle.order_graph.proofs.clashes.edge_would_clash.Goals.{then-is_missing-via-then-is_missing, then-is_missing-via-else-is_missing+then-is_missing-2, then-is_missing-via-else-is_missing+else-is_missing-2+then-leads_to}
use Rattle.order_graph.proofs.clashes.edge_would_clash.Goals as goal

pub returns-then-reaches : goal.returns-then-reaches
returns-then-reaches c = λ ls s.
    let wide = c.requires.sized.1 in let b_in = c.requires.b_in in
    known_consistent ls c.args.a c.args.b s.consistent
    ((s.reach c.args.a c.args.b c.requires.a_in (omega arith)).0 (sym c.reaches.ensures ∙ c.if-reaches.true))

pub returns-then-is_missing : goal.returns-then-is_missing
returns-then-is_missing c = λ ls s.
    let a = c.args.a in let b = c.args.b in let wide = c.requires.sized.1 in let a_in = c.requires.a_in in
    elim c.then-is_missing.branch [
      | then-is_missing-via-then-is_missing w ↦
          clashes_refute (more ls (Edge a b)) (Absent a) (start_clash ls a b ((s.missing a a_in).0 (sym c.is_missing.ensures ∙ w.if-is_missing.true)))
      | then-is_missing-via-else-is_missing+then-is_missing-2 w ↦
          clashes_refute (more ls (Edge a b)) (Absent b)
          (end_clash ls a b ((s.missing b c.requires.b_in).0 (sym w.is_missing-else-is_missing.ensures ∙ w.if-is_missing-2.true)))
      | then-is_missing-via-else-is_missing+else-is_missing-2+then-leads_to w ↦
          back_refutes ls a b ((leads_reach c.args.nodes c.args.table.now ls s b a c.requires.b_in (omega arith)).0
          (sym w.leads_to.ensures ∙ w.if-leads_to.true))
    ]

pub returns : goal.returns
returns c = λ ls s.
    pairs_told c.args.nodes c.args.table.now ls c.args.a c.args.b s c.requires.sized.1 c.requires.a_in c.requires.b_in
    (sym c.is_missing.ensures ∙ c.if-is_missing.false) (sym c.is_missing-else-is_missing.ensures ∙ c.if-is_missing-2.false)
    (sym c.leads_to.ensures ∙ c.if-leads_to.false)
    c.joins_denied.result c.joins_denied.ensures
