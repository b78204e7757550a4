use Rattle.std.proofs.Common.{map, take}
use Rattle.pc_case.specs.{Plain.{stated_value}, Tables.{AreValuesOf}}
use Rattle.pc_case.proofs.stated.ValueTable.from_list.Given as goal

abbrev pub invariant-loop-line : goal.invariant-loop-line
invariant-loop-line l = AreValuesOf l.by_address.entries (map stated_value (take l.line-index l.line-items))
