use Rattle.std.proofs.lemmas.Bool.{MatchBool-at_true}
use Rattle.solver.{specs.Spelled.{spelled}, proofs.IsChosen.{pending}}
use Rattle.solver.proofs.search.candidate.is_pending.Goals as goal

pub returns-clause-pending : goal.returns-clause-pending
returns-clause-pending c =
    pending (spelled c.args.tree.now.rows) c.args.asserted.now c.args.place c.sides.result c.is_untaken.result
    (MatchBool-at_true _ _ c.if-not-is_or.false c.is_or.ensures.is_or) c.sides.ensures.sides c.is_untaken.ensures
