-- Each function's measure is of what it copies.
use Rattle.std.{proofs.Common.{◌+◌, ◌*◌}, specs.Prelude.{max}}
use Rattle.pc_syntax.specs.declared.formula.Formula.{size-Formula}
use Rattle.macro_expand.proofs.short_names.formulas.+walk.Given as goal

abbrev pub decreases-short_formula : goal.decreases-short_formula
decreases-short_formula l = 2 * size-Formula l.formula.now

abbrev pub decreases-short_joined : goal.decreases-short_joined
decreases-short_joined l = 2 * max (size-Formula l.left.now) (size-Formula l.right.now) + 1

abbrev pub decreases-short_quantified : goal.decreases-short_quantified
decreases-short_quantified l = 2 * size-Formula l.body.now + 1

abbrev pub decreases-short_binding : goal.decreases-short_binding
decreases-short_binding l = 2 * size-Formula l.body.now + 1
