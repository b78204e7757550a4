-- Parts of the table of faults that the code judges alone.
use Rattle.std.specs.Prelude.{ℕ, ◌==◌, Bool, ◌&&◌, List}
use Rattle.pc_common.specs.declared.{fault.FaultKind.{FaultKind, TheVariants.{AgainInitial, AgainFinal}}, value.Value.{Value}}
use Rattle.x86_litmus.specs.{Said.{Instruction, is_load_of}, declared.faults.When.{When, TheVariants.{Before, Behind}}}

-- the kind of the fault where such a value is stated again
abbrev pub word_of : When → Value → Value → FaultKind
word_of Before = AgainInitial
word_of Behind = AgainFinal

-- whether the instruction is a load of the register by the thread
abbrev pub is_load_by : ℕ → List ℕ → Instruction → Bool
is_load_by thread register i = (i.thread == thread) && is_load_of register i.action
