-- Each function's measure is of what it walks.
use Rattle.std.proofs.Common.{◌+◌, ◌*◌, max}
use Rattle.pc_syntax.specs.declared.formula.Formula.{size-Formula}
use Rattle.scope_check.proofs.walk.+walk.Given as goal

abbrev pub decreases-close_formula : goal.decreases-close_formula
decreases-close_formula l = 2 * size-Formula l.formula.now

abbrev pub decreases-close_both : goal.decreases-close_both
decreases-close_both l = 2 * max (size-Formula l.left.now) (size-Formula l.right.now) + 1

abbrev pub decreases-close_quantified : goal.decreases-close_quantified
decreases-close_quantified l = 2 * size-Formula l.body.now + 1

abbrev pub decreases-close_binding : goal.decreases-close_binding
decreases-close_binding l = 2 * size-Formula l.body.now + 1
