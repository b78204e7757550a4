use Rattle.std.proofs.{Common.{sym, ◌∙◌}, lemmas.{Bool.Decides.{Decides-eqb}, Slice.Eq.{slice_eq-Decides}}}
use Rattle.pc_common.proofs.Bools.{not_both}
use Rattle.graph_text.proofs.GraphTexts.{node_read, edge_read, no_form-other, no_again-other}
use Rattle.graph_text.proofs.reading.read_graph_line.Goals as goal

pub returns-then-eq-clause-read : goal.returns-then-eq-clause-read
returns-then-eq-clause-read c =
    rw c.node_line.ensures (node_read c.args.names.now c.args.line.now c.in-Some.kind.now c.in-Some.words.now c.in-Some.ensures c.read.result
    ((slice_eq-Decides Decides-eqb c.in-Some.kind.now c.as_slice.result.now c.eq.result c.eq.ensures).0 c.if-eq.true ∙ c.as_slice.ensures) c.read.ensures.read)

pub returns-then-eq-2-clause-read : goal.returns-then-eq-2-clause-read
returns-then-eq-2-clause-read c =
    rw c.edge_line.ensures (edge_read c.args.names.now c.args.line.now c.in-Some.kind.now c.in-Some.words.now c.in-Some.ensures c.read_ends.result
    ((slice_eq-Decides Decides-eqb c.in-Some.kind.now c.as_slice-2.result.now c.eq-2.result c.eq-2.ensures).0 c.if-eq-2.true ∙ c.as_slice-2.ensures)
    c.read_ends.ensures.read)

pub returns-clause-read : goal.returns-clause-read
returns-clause-read c =
    no_form-other c.args.line.now c.in-Some.kind.now c.in-Some.words.now c.in-Some.ensures
    (λ e. not_both c.eq.result ((slice_eq-Decides Decides-eqb c.in-Some.kind.now c.as_slice.result.now c.eq.result c.eq.ensures).1
    (e ∙ sym c.as_slice.ensures)) c.if-eq.false)
    (λ e. not_both c.eq-2.result ((slice_eq-Decides Decides-eqb c.in-Some.kind.now c.as_slice-2.result.now c.eq-2.result c.eq-2.ensures).1
    (e ∙ sym c.as_slice-2.ensures)) c.if-eq-2.false)

pub returns-clause-again : goal.returns-clause-again
returns-clause-again c =
    no_again-other c.args.line.now c.in-Some.kind.now c.in-Some.words.now c.in-Some.ensures
    (λ e. not_both c.eq.result ((slice_eq-Decides Decides-eqb c.in-Some.kind.now c.as_slice.result.now c.eq.result c.eq.ensures).1
    (e ∙ sym c.as_slice.ensures)) c.if-eq.false)
    (λ e. not_both c.eq-2.result ((slice_eq-Decides Decides-eqb c.in-Some.kind.now c.as_slice-2.result.now c.eq-2.result c.eq-2.ensures).1
    (e ∙ sym c.as_slice-2.ensures)) c.if-eq-2.false)
    c.args.names.now
