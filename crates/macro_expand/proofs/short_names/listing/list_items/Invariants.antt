use Rattle.std.proofs.Common.{◌≡◌, ◌++◌, take, map, flat_map}
use Rattle.pc_syntax.specs.Written.{written_item}
use Rattle.macro_expand.specs.ModelNames.{item_names}
use Rattle.macro_expand.proofs.short_names.listing.list_items.Given as goal

abbrev pub invariant-loop-item : goal.invariant-loop-item
invariant-loop-item l = l.names ≡ l.initial.names ++ flat_map item_names (map written_item (take l.item-index l.items))
