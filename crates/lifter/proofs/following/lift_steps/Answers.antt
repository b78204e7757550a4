use Rattle.lifter.proofs.following.lift_steps.Goals as goal

pub close_all-requires-clause-kept : goal.close_all-requires-clause-kept
close_all-requires-clause-kept c = c.in_ok-state.ensures.kept c.args.case.now
