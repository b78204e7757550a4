use Rattle.std.proofs.Common.{◌≡◌, map, drop}
use Rattle.x86_litmus.specs.{Faults.{open_fault as open_fault_spec}, Plain.{plain_asked, plain_instruction}}
use Rattle.x86_litmus.proofs.faults.open_fault.Given as goal

abbrev pub invariant-loop-instruction : goal.invariant-loop-instruction
invariant-loop-instruction l =
    open_fault_spec (map plain_asked l.asked) (map plain_instruction l.instructions)
    ≡ open_fault_spec (map plain_asked l.asked) (map plain_instruction (drop l.instruction-index l.instructions))
