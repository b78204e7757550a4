use Rattle.std.proofs.Common.{◌≡◌, drop, map}
use Rattle.pc_common.specs.Addresses.{stated_at}
use Rattle.pc_case.specs.Plain.{address_at, stated_value}
use Rattle.pattern_reader.proofs.values.initial_value.Given as goal

abbrev pub invariant-loop-line : goal.invariant-loop-line
invariant-loop-line l =
    stated_at (map stated_value l.lists.initial) (address_at l.pa)
    ≡ stated_at (map stated_value (drop l.line-index l.line-items)) (address_at l.pa)
