use Rattle.std.proofs.Common.{◌≡◌, ◌-◌, length, map, drop}
use Rattle.pc_common.specs.Case.{cores_of}
use Rattle.pc_case.specs.Plain.{micro_op}
use Rattle.pc_case.proofs.case.core_count.Given as goal

abbrev pub invariant-loop-k : goal.invariant-loop-k
invariant-loop-k l = l.cores ≡ cores_of (map micro_op (drop (length l.ops - l.k) l.ops))
