use Rattle.std.proofs.Common.{◌+◌, ◌*◌, max}
use Rattle.pc_syntax.specs.{Written.{written}, Sizes.{expanded_height}}
use Rattle.macro_expand.specs.Tables.{before, plain_macros}
use Rattle.macro_expand.proofs.expansion.Expander.+walk.Given as goal

abbrev pub decreases-expansion : goal.decreases-expansion
decreases-expansion l = 2 * expanded_height (before (plain_macros l.self.now.macros.now) l.earlier) (written l.formula.now)

abbrev pub decreases-joined : goal.decreases-joined
decreases-joined l =
    let ms = before (plain_macros l.self.now.macros.now) l.earlier in
    2 * max (expanded_height ms (written l.left.now)) (expanded_height ms (written l.right.now)) + 1

abbrev pub decreases-quantified : goal.decreases-quantified
decreases-quantified l = 2 * expanded_height (before (plain_macros l.self.now.macros.now) l.earlier) (written l.body.now) + 1

abbrev pub decreases-binding : goal.decreases-binding
decreases-binding l = 2 * expanded_height (before (plain_macros l.self.now.macros.now) l.earlier) (written l.body.now) + 1
