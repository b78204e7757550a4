use Rattle.std.proofs.Common.{◌≡◌, ◌++◌, List, map, take, filter, ◌==◌}
use Rattle.pc_case.specs.Plain.{micro_op}
use Rattle.x86_litmus.specs.{Said.{Instruction}, Cases.{numbered}, Plain.{plain_instruction, plain_said}}
use Rattle.x86_litmus.proofs.case_of.push_thread.Given as goal

abbrev pub invariant-loop-instruction : goal.invariant-loop-instruction
invariant-loop-instruction l =
    (before : List Instruction) → map micro_op l.initial.ops ≡ numbered l.locations (plain_said l.said).asked 0 before
    → map micro_op l.ops ≡ numbered l.locations (plain_said l.said).asked 0
    (before ++ filter (λ (i : Instruction). i.thread == l.thread) (map plain_instruction (take l.instruction-index l.said.instructions.items)))
