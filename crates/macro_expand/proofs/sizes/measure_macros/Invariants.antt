use Rattle.std.proofs.Common.{◌≡◌, length}
use Rattle.macro_expand.specs.{Tables.{plain_macros}, Measures.{AreMeasures}}
use Rattle.macro_expand.proofs.sizes.measure_macros.Given as goal

abbrev pub invariant-loop-number : goal.invariant-loop-number
invariant-loop-number l = AreMeasures (plain_macros l.macros) l.measures.items × (length l.measures.items ≡ l.number)
