use Rattle.std.proofs.Common.{◌≡◌, map, take}
use Rattle.pc_syntax.specs.Expansion.{parameter_names}
use Rattle.macro_expand.specs.Tables.{plain_macros}
use Rattle.macro_expand.proofs.parameter_names.names_of_macros.Given as goal

abbrev pub invariant-loop-number : goal.invariant-loop-number
invariant-loop-number l = l.names.items ≡ map parameter_names (take l.number (plain_macros l.macros))
