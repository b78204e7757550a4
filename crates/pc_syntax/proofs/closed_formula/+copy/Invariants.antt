-- Each function's measure is of what it copies.
use Rattle.std.{proofs.Common.{◌+◌, ◌*◌}, specs.Prelude.{max}}
use Rattle.pc_syntax.specs.declared.closed_formula.ClosedFormula.{size-ClosedFormula}
use Rattle.pc_syntax.proofs.closed_formula.+copy.Given as goal

abbrev pub decreases-ClosedFormula::copy : goal.decreases-ClosedFormula::copy
decreases-ClosedFormula::copy l = 2 * size-ClosedFormula l.self.now

abbrev pub decreases-copy_both : goal.decreases-copy_both
decreases-copy_both l = 2 * max (size-ClosedFormula l.left.now) (size-ClosedFormula l.right.now) + 1

abbrev pub decreases-copy_bound : goal.decreases-copy_bound
decreases-copy_bound l = 2 * size-ClosedFormula l.body.now + 1
