use Rattle.std.proofs.Common.{◌≡◌, map}
use Rattle.pc_case.specs.Plain.{micro_op}
use Rattle.x86_litmus.specs.{Cases.{numbered, test_order}, Plain.{plain_said}}
use Rattle.x86_litmus.proofs.case_of.ops.Given as goal

abbrev pub invariant-loop-thread : goal.invariant-loop-thread
invariant-loop-thread l =
    map micro_op l.ops ≡ numbered l.locations (plain_said l.said).asked 0 (test_order l.thread (plain_said l.said).instructions)
