use Rattle.axiom_core.proofs.shrinking.note.Goals as goal

pub returns-in_ok-push : goal.returns-in_ok-push
returns-in_ok-push c = rw c.if-flag.true c.in_ok-push.ensures
