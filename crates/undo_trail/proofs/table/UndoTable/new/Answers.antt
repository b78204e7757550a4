use Rattle.std.proofs.Common.{◌≡◌, ◌*◌, replicate, rules}
use Rattle.undo_trail.proofs.BitWords.{has-clear}
use Rattle.undo_trail.proofs.table.UndoTable.new.Goals as goal

pub returns-clause-clear : goal.returns-clause-clear
returns-clause-clear c = λ r k.
    let clear : c.in_ok-vec.field-0.items ≡ replicate (c.args.rows * c.args.words) 0 = search rules in
    rw clear (has-clear c.args.words (c.args.rows * c.args.words) r k)
