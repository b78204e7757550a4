use Rattle.std.proofs.Common.{rules, arith}
use Rattle.language_tests.proofs.TwoOps.{two_ops}
use Rattle.language_tests.proofs.readers.cases.made_ops.Goals as goal

pub returns-clause-kept : goal.returns-clause-kept
returns-clause-kept c =
    rw (c.in_ok-push-2.ensures, c.in_ok-push.ensures, c.new-ops.ensures)
    (two_ops _ _ (omega arith) (omega arith) (λ e. omega (arith, e)) (search rules) (search rules))
