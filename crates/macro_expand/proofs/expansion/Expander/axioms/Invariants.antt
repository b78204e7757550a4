use Rattle.std.proofs.Common.{take}
use Rattle.macro_expand.specs.Tables.{AreAxiomsExpanded}
use Rattle.macro_expand.proofs.expansion.Expander.axioms.Given as goal

abbrev pub invariant-loop-item : goal.invariant-loop-item
invariant-loop-item l = AreAxiomsExpanded l.self.macros.now (take l.item-index l.items) l.axioms.items
