use Rattle.std.{proofs.Common.{◌≡◌, drop, map}, specs.List.{list_any}}
use Rattle.pc_common.specs.Addresses.{same_value}
use Rattle.pc_case.specs.Plain.{plain_value}
use Rattle.pattern_reader.proofs.values.has_value.Given as goal

abbrev pub invariant-loop-other : goal.invariant-loop-other
invariant-loop-other l =
    list_any (same_value (plain_value l.value)) (map plain_value l.values)
    ≡ list_any (same_value (plain_value l.value)) (map plain_value (drop l.other-index l.values))
