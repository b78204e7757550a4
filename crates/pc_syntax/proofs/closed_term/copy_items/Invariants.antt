use Rattle.std.proofs.Common.{◌≡◌, take}
use Rattle.pc_syntax.proofs.closed_term.copy_items.Given as goal

abbrev pub invariant-loop-item : goal.invariant-loop-item
invariant-loop-item g l = l.copies ≡ take l.item-index l.item-items
