use Rattle.std.proofs.Common.{◌≡◌, map, take}
use Rattle.pc_case.specs.Plain.{stated_value}
use Rattle.x86_litmus.specs.Cases.{stated}
use Rattle.x86_litmus.proofs.case_of.stated_values.Given as goal

abbrev pub invariant-loop-k : goal.invariant-loop-k
invariant-loop-k l = map stated_value l.lines ≡ stated l.locations (take l.k l.values)
