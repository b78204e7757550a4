use Rattle.std.{proofs.Common.{refl, sym, subst}, specs.Prelude.{All}}
use Rattle.pc_common.{specs.Lines.{Names}, proofs.Writes.{writes_then, writes_stop}}
use Rattle.graph_text.specs.Graphs.{IsKeyIn, IsEdgeIn}
use Rattle.core_command.proofs.certificates.write_shown.Goals as goal

pub write_graph-requires-clause-nodes : goal.write_graph-requires-clause-nodes
write_graph-requires-clause-nodes g c =
    let P : Names → Type 0 = λ ns. All (IsKeyIn ns) c.args.graph.now.nodes in subst P (sym c.of-names.ensures.view) c.requires.0

pub write_graph-requires-clause-edges : goal.write_graph-requires-clause-edges
write_graph-requires-clause-edges g c =
    let P : Names → Type 0 = λ ns. All (IsEdgeIn ns) c.args.graph.now.edges in subst P (sym c.of-names.ensures.view) c.requires.1

pub returns-in_err-write_all : goal.returns-in_err-write_all
returns-in_err-write_all g c =
    writes_stop _ refl c.from_residual.ensures.0 (rw c.verdict_line.ensures at c.in_err-write_all.ensures)

pub returns-in_err-write_all-2 : goal.returns-in_err-write_all-2
returns-in_err-write_all-2 g c =
    writes_then refl (rw c.verdict_line.ensures at c.in_ok-write_all.ensures)
    (writes_stop _ refl c.from_residual-in_err-write_all-2.ensures.0
    (rw (c.second_line.ensures, c.expect.ensures) at c.in_err-write_all-2.ensures))

pub returns-in_err-write_graph : goal.returns-in_err-write_graph
returns-in_err-write_graph g c =
    writes_then refl (rw c.verdict_line.ensures at c.in_ok-write_all.ensures)
    (writes_then refl (rw (c.second_line.ensures, c.expect.ensures) at c.in_ok-write_all-2.ensures)
    (writes_stop _ refl c.from_residual-in_err-write_graph.ensures.0 (rw c.of-names.ensures.view at c.in_err-write_graph.ensures)))

pub returns : goal.returns
returns g c =
    writes_then refl (rw c.verdict_line.ensures at c.in_ok-write_all.ensures)
    (writes_then refl (rw (c.second_line.ensures, c.expect.ensures) at c.in_ok-write_all-2.ensures)
    (writes_then refl (rw c.of-names.ensures.view at c.in_ok-write_graph.ensures) c.write_all-3.ensures))
