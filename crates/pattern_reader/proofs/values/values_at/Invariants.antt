use Rattle.std.proofs.Common.{◌≡◌, take, map}
use Rattle.pc_case.specs.Plain.{address_at, plain_value, micro_op}
use Rattle.litmus_reader.specs.Lists.{case_by}
use Rattle.pattern_reader.proofs.ReadableValues.{written_so_far}
use Rattle.pattern_reader.proofs.values.values_at.Given as goal

abbrev pub invariant-loop-op : goal.invariant-loop-op
invariant-loop-op l =
    map plain_value l.values ≡ written_so_far (case_by l.lists) (address_at l.pa) (map micro_op (take l.op-index l.op-items))
