use Rattle.std.proofs.Common.{arith}
use Rattle.solver.specs.Places.{place_signed}
use Rattle.solver.proofs.{IsSpelled.{turned_at}, HasAsserted.{length_spelled}, IsChosen.{or_row, other_row, past_rows}}
use Rattle.solver.proofs.tree.ors.is_or.Goals as goal

pub returns-then-place-len-clause-is_or : goal.returns-then-place-len-clause-is_or
returns-then-place-len-clause-is_or c = past_rows c.args.tree.now.rows (place_signed c.args.place) c.len.ensures.numbered.tree (omega arith)

pub row-requires : goal.row-requires
row-requires c = omega (arith, length_spelled c.args.tree.now.rows c.len.ensures.numbered.tree)

pub returns-in-Or-clause-is_or : goal.returns-in-Or-clause-is_or
returns-in-Or-clause-is_or c =
    let at = turned_at c.args.place.negated c.args.tree.now.rows c.args.place.position c.row.result c.negate_if.result c.row.ensures.row c.negate_if.ensures in
    or_row c.args.tree.now.rows (place_signed c.args.place) c.negate_if.result c.row.ensures.numbered.tree (omega arith) at c.in-Or.is

pub returns-in_default-clause-is_or : goal.returns-in_default-clause-is_or
returns-in_default-clause-is_or c =
    let at = turned_at c.args.place.negated c.args.tree.now.rows c.args.place.position c.row.result c.negate_if.result c.row.ensures.row c.negate_if.ensures in
    other_row c.args.tree.now.rows (place_signed c.args.place) c.negate_if.result c.row.ensures.numbered.tree (omega arith) at c.in_default.not-Or
