use Rattle.std.proofs.lemmas.Bool.{MatchBool-at_true}
use Rattle.solver.{specs.Spelled.{spelled}, proofs.IsChosen.{pending_candidate}}
use Rattle.solver.proofs.search.candidate.is_candidate_now.Goals as goal

pub returns-clause-candidate : goal.returns-clause-candidate
returns-clause-candidate c = λ yes.
    let told = rw (c.rows.ensures.rows, c.requires.literals) at c.in_ok-truth.ensures in
    MatchBool-at_true _ _ yes (pending_candidate (spelled c.args.tree.now.rows) c.args.asserted.now c.args.place c.in_ok-truth.truth c.is_one.result
    (MatchBool-at_true _ _ c.if-not-is_pending.false c.is_pending.ensures.pending) told c.is_one.ensures)
