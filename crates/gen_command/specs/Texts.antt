-- What the two texts that `gen` makes say, and the six lines of its answer.
use Rattle.std.specs.{Prelude.{ℕ, List, ◌++◌, codes}, Fmt.{decimal}}
use Rattle.pc_common.specs.{Case.{Case}, Lines.{Verdict, verdict_text}, declared.fault.InputFault.{InputFault}}
use Rattle.pc_syntax.specs.Written.{WrittenModel}
use Rattle.litmus_reader.specs.Answer.{CaseOf}
use Rattle.pc_front.specs.Front.{SaysModel, IsFirstFrontFault as IsFaultOf}
use Rattle.gen_command.specs.Ring.{ring_model, ring_test}

-- the model and the case that the two texts say
pub record SaysRing (n : ℕ) (m : WrittenModel) (c : Case) : Type 0 where
  pub says_model : SaysModel ring_model m
  pub says_test : CaseOf (ring_test n) c

-- the first fault of the two texts
abbrev pub IsRingFault : ℕ → InputFault → Type 0
IsRingFault n fault = IsFaultOf ring_model (ring_test n) fault

-- N, the verdict, and the numbers of nodes, of splits and of leaves
abbrev pub ring_text : ℕ → Verdict → ℕ → ℕ → ℕ → List ℕ
ring_text n v nodes splits leaves =
    codes "gen " ++ decimal n ++ codes "\n" ++ verdict_text v ++ codes "\n" ++ codes "nodes " ++ decimal nodes
    ++ codes "\n"
    ++ codes "splits " ++ decimal splits ++ codes "\n" ++ codes "leaves " ++ decimal leaves ++ codes "\n"
    ++ codes "end\n"
