use Rattle.std.proofs.Common.{◌∙◌, ◌-◌, sym, vec_capacity, vec_len}
use Rattle.undo_trail.proofs.{Back.{length-past}, Grows.{is_bit_table}}
use Rattle.undo_trail.proofs.table.UndoTable.mark.Goals as goal

pub returns-clause-last : goal.returns-clause-last
returns-clause-last c = rw (← c.self.view_is) (c.from_changes.ensures ∙ c.len.ensures ∙ c.self.inside.trail.ok.0
    ∙ sym (length-past c.self.inside.trail.items c.self.inside.table.items))

pub returns-clause-table : goal.returns-clause-table
returns-clause-table c = rw (← c.self.view_is)
    (is_bit_table c.self.inside.rows c.self.inside.words (vec_capacity c.self.inside.trail - vec_len c.self.inside.trail)
    c.self.inside.trail.items c.self.inside.table.items c.self.invariant.1)
