use Rattle.std.proofs.lemmas.Bool.{MatchBool-at_true}
use Rattle.solver.{specs.Spelled.{spelled}, proofs.IsChosen.{pending_candidate}}
use Rattle.solver.proofs.search.candidate.is_candidate.Goals as goal

pub returns : goal.returns
returns c =
    pending_candidate (spelled c.args.tree.now.rows) c.args.asserted.now c.args.place c.args.truth c.is_one.result
    (MatchBool-at_true _ _ c.if-not-is_pending.false c.is_pending.ensures.pending) c.requires c.is_one.ensures
