-- What a command on two files answers, and which status is due of it.
use Rattle.std.specs.Prelude.{◌≡◌, ℕ, List}
use Rattle.pc_common.specs.{Case.{Case}, declared.{fault.InputFault.{InputFault}, status.Status.{Status, TheVariants.{Refused}}}}
use Rattle.pc_syntax.specs.Written.{WrittenModel}
use Rattle.command_base.specs.{Inputs.{Inputs, Contents, Says, IsFirstInputFault}, Refusals.{IsInputRefusal}}

-- the answer to a command on two files: the refusal by their first fault, or what the command finds of the model and
-- the case
pub data AnswersFiles (case_of : List ℕ → Case → Type 0) (first_fault : List ℕ → List ℕ → InputFault → Type 0)
    (holds : Contents) (i : Inputs)
    (finds : WrittenModel → Case → Status → List ℕ → Type 0) : Status → List ℕ → Type 0 where
  refused : {status : Status} {text : List ℕ} → IsInputRefusal first_fault holds i status text
      → AnswersFiles case_of first_fault holds i finds status text
  found : {m : WrittenModel} {c : Case} {status : Status} {text : List ℕ} → Says case_of holds i m c
      → finds m c status text
      → AnswersFiles case_of first_fault holds i finds status text

-- the status that is due: Refused wherever the files have a fault, and what is due of the model and the case that they
-- say
pub record IsDueOfFiles (case_of : List ℕ → Case → Type 0) (first_fault : List ℕ → List ℕ → InputFault → Type 0)
    (holds : Contents) (i : Inputs)
    (due : WrittenModel → Case → Status → Type 0) (status : Status) : Type 0 where
  pub found : (m : WrittenModel) (c : Case) → Says case_of holds i m c → due m c status
  pub fault : (f : InputFault) → IsFirstInputFault first_fault holds i f → status ≡ Refused
