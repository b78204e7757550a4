use Rattle.std.proofs.Common.{◌≡◌, take, map, fold}
use Rattle.x86_litmus.specs.{Cases.{seen_by}, Plain.{plain_instruction}}
use Rattle.x86_litmus.proofs.locations.Locations.see_instructions.Given as goal

abbrev pub invariant-loop-instruction : goal.invariant-loop-instruction
invariant-loop-instruction l = l.self ≡ fold seen_by l.initial.self (map plain_instruction (take l.instruction-index l.instructions))
