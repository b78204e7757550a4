use Rattle.std.proofs.Common.{◌≡◌, ◌++◌, take, flat_map}
use Rattle.macro_expand.proofs.short_names.listing.list_all.Given as goal

abbrev pub invariant-loop-item : goal.invariant-loop-item
invariant-loop-item g l = l.names ≡ l.initial.names ++ flat_map g.T.HasNames.names_in (take l.item-index l.list)
