use Rattle.std.proofs.Common.{◌≡◌, map, drop}
use Rattle.x86_litmus.specs.{Said.{loads as loads_spec}, Plain.{plain_instruction}}
use Rattle.x86_litmus.proofs.faults.loads.Given as goal

abbrev pub invariant-loop-instruction : goal.invariant-loop-instruction
invariant-loop-instruction l =
    loads_spec (map plain_instruction l.instructions) l.thread l.register
    ≡ loads_spec (map plain_instruction (drop l.instruction-index l.instructions)) l.thread l.register
