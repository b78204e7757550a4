use Rattle.std.proofs.Common.{length, ap, arith}
use Rattle.solver.proofs.HasAsserted.{length_spelled}
use Rattle.solver.proofs.tree.numbered_tree.NumberedTree.row.Goals as goal

pub row_at-requires : goal.row_at-requires
row_at-requires c =
    let inside = rw (← c.self.view_is) at c.requires in
    omega (arith, inside, length_spelled c.self.inside.rows.items c.self.invariant.tree, ap length c.deref.ensures.value)
