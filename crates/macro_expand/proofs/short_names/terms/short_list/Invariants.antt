use Rattle.std.proofs.Common.{◌≡◌, take, map}
use Rattle.macro_expand.specs.Numbers.{short_name}
use Rattle.macro_expand.proofs.short_names.terms.short_list.Given as goal

abbrev pub invariant-loop-item : goal.invariant-loop-item
invariant-loop-item g l = l.shorts ≡ map (g.T.Named.renamed (short_name l.names)) (take l.item-index l.list)
