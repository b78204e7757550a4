-- What a model's file and a pattern's say together, and their first fault.
use Rattle.std.specs.Prelude.{◌≡◌, ℕ, List, IsTrue}
use Rattle.pc_common.specs.{Outside.{FilesView}, Reads.{Reads}, Case.{Case}, declared.fault.InputFault.{InputFault}}
use Rattle.pc_syntax.specs.Written.{WrittenModel}
use Rattle.pc_front.specs.{ModelFront.{IsModelFrontOf}, Front.{SaysModel, case_fault_of}}
use Rattle.pattern_reader.specs.{Rows.{Pattern}, Answer.{PatternOf, IsPatternFault}}
use Rattle.command_base.specs.{Inputs.{Inputs, Contents, IsRead, LacksInput}, SecondFiles.{IsToldFault, IsFaultOfTwo}}
use Rattle.sweep_command.specs.declared.inputs.Task.{Task}

-- the bytes are a pattern of this case, with a 0 in each open read
abbrev pub ClosedCase : List ℕ → Case → Type 0
ClosedCase bytes c = (p : Pattern) × PatternOf bytes p × (c ≡ p.case)

-- the first fault of a model's bytes and a pattern's: the model's, and where it has none, the pattern's
abbrev pub IsFirstSweepFault : List ℕ → List ℕ → InputFault → Type 0
IsFirstSweepFault = IsFaultOfTwo (IsToldFault IsPatternFault case_fault_of)

-- the model and the pattern that the two files say
pub record SaysPattern (holds : Contents) (i : Inputs) (m : WrittenModel) (p : Pattern) : Type 0 where
  pub model_bytes : List ℕ
  pub pattern_bytes : List ℕ
  pub model_read : IsRead holds i.model model_bytes
  pub pattern_read : IsRead holds i.test pattern_bytes
  pub says_model : SaysModel model_bytes m
  pub says_pattern : PatternOf pattern_bytes p

-- the bytes of a model and of a pattern say this
pub record SaysTask (model second : List ℕ) (task : Task) : Type 0 where
  pub m : WrittenModel
  pub says_model : SaysModel model m
  pub model_of : IsModelFrontOf m task.model
  pub says_pattern : PatternOf second task.pattern

-- a model and a pattern, which the two files say where they are known
pub record HasTask {F : Type 0} (view : F → FilesView) (i : Inputs) (old new : F) (task : Task) : Type 0 where
  pub keeps : Reads view old new
  pub model : List ℕ
  pub second : List ℕ
  pub task_is : SaysTask model second task
  pub says : IsTrue (view old).modelled → SaysPattern (view old).holds i task_is.m task.pattern
  pub held : IsTrue (view old).only_missing_fail → LacksInput (view old).holds i → ⊥
