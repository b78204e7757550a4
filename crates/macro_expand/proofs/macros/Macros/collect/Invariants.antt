use Rattle.std.{proofs.Common.{◌≡◌, map, take}, specs.List.{flat_map}}
use Rattle.pc_syntax.specs.{Written.{written_item}, Observable.{macro_of}}
use Rattle.macro_expand.specs.Tables.{plain_macros, first_of_names}
use Rattle.macro_expand.proofs.macros.Macros.collect.Given as goal

abbrev pub invariant-loop-item : goal.invariant-loop-item
invariant-loop-item l = plain_macros l.macros ≡ first_of_names (flat_map macro_of (map written_item (take l.item-index l.items)))
