use Rattle.std.proofs.Common.{refl, arith}
use Rattle.solver.proofs.IsTreePart.{tree_part}
use Rattle.solver.proofs.search.truths.end_of.Goals as goal

pub overflow_add-result : goal.overflow_add-result
overflow_add-result c =
    let part = tree_part c.args.rows.now c.args.p _ c.row_at.result c.requires.tree c.requires.inside c.row_at.ensures.row refl in
    omega (arith, part.1, c.row_at.ensures.bound)

pub returns-clause-part : goal.returns-clause-part
returns-clause-part c = (tree_part c.args.rows.now c.args.p _ c.row_at.result c.requires.tree c.requires.inside c.row_at.ensures.row refl).0

pub returns-clause-high : goal.returns-clause-high
returns-clause-high c = (tree_part c.args.rows.now c.args.p _ c.row_at.result c.requires.tree c.requires.inside c.row_at.ensures.row refl).1
