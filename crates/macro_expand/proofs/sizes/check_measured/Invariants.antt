use Rattle.std.proofs.Common.{◌≡◌, ◌≤◌, length, map, drop}
use Rattle.pc_syntax.specs.{Written.{written_item}, Sizes.{sizes_fault}}
use Rattle.macro_expand.specs.Tables.{before, plain_macros}
use Rattle.macro_expand.proofs.sizes.check_measured.Given as goal

abbrev pub invariant-loop-item : goal.invariant-loop-item
invariant-loop-item l =
    (l.total ≤ 1000000)
    × (sizes_fault (before (plain_macros l.macros) (length l.measures)) 0 (map written_item l.items)
    ≡ sizes_fault (before (plain_macros l.macros) (length l.measures)) l.total (map written_item (drop l.item-index l.items)))
