use Rattle.std.proofs.Common.{map, take}
use Rattle.pc_case.specs.{Plain.{dependency}, Tables.{IsTableOf}}
use Rattle.pc_case.proofs.dependency.DependencyTable.from_list.Given as goal

abbrev pub invariant-loop-line : goal.invariant-loop-line
invariant-loop-line l = IsTableOf l.kinds.entries (map dependency (take l.line-index l.line-items))
