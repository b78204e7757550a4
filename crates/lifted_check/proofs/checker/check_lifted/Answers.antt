use Rattle.std.proofs.Common.{[]}
use Rattle.lifted_check.specs.LiftedTexts.{asked}
use Rattle.lifted_check.proofs.checker.check_lifted.Goals as goal

pub returns-clause-found : goal.returns-clause-found
returns-clause-found c =
    c.finish.ensures.found (asked c.args.case.now c.args.axioms.now) c.args.bytes.now
    (c.in_ok-feed.ensures.took (asked c.args.case.now c.args.axioms.now) [] c.new.ensures)

pub returns-clause-outcome : goal.returns-clause-outcome
returns-clause-outcome c =
    c.finish.ensures.outcome (asked c.args.case.now c.args.axioms.now) c.args.bytes.now
    (c.in_ok-feed.ensures.took (asked c.args.case.now c.args.axioms.now) [] c.new.ensures)
