use Rattle.std.proofs.Common.{◌≡◌, take, map}
use Rattle.pc_syntax.specs.{Written.{written_item}, Renaming.{renamed_item}}
use Rattle.macro_expand.specs.Numbers.{short_name}
use Rattle.macro_expand.proofs.short_names.model.short_items.Given as goal

abbrev pub invariant-loop-item : goal.invariant-loop-item
invariant-loop-item l =
    map written_item l.shorts ≡ map (renamed_item (short_name l.names)) (map written_item (take l.item-index l.item-items))
