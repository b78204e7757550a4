use Rattle.macro_expand.proofs.ItemWalk.{IsWalked}
use Rattle.macro_expand.proofs.items.check_items.Given as goal

abbrev pub invariant-loop-item : goal.invariant-loop-item
invariant-loop-item l = IsWalked l.items l.item-index l.earlier
