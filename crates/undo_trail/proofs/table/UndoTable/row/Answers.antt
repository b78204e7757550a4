use Rattle.std.proofs.Common.{◌≡◌, ◌+◌, ◌*◌, ◌-◌, arith}
use Rattle.undo_trail.proofs.BitWords.{column_of_row}
use Rattle.undo_trail.proofs.table.UndoTable.row.Goals as goal

pub returns-clause-columns : goal.returns-clause-columns
returns-clause-columns c =
    let at = c.args.r * c.self.inside.words in
    let size : (at + c.self.inside.words) - at ≡ c.self.inside.words = omega arith in
    rw (← c.self.view_is, c.deref.ensures.value, size) (column_of_row c.self.inside.words c.self.inside.table.items c.args.r)
