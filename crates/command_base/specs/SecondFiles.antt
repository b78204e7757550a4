-- What the bytes of a model and of a second file say together, and what a form of second files has to be.
use Rattle.std.specs.Prelude.{◌≡◌, ◌⊎◌, ⊤, ℕ, List, Option, Some}
use Rattle.pc_common.specs.{Case.{Case}, declared.fault.{FaultKind.{FaultKind}, InputFault.{InputFault}, Which.{Which, TheVariants.{Model, Test, Query}}}}
use Rattle.pc_common.specs.declared.place.Place.{Place}
use Rattle.pc_case.specs.MicroOps.{AreMicroOps}
use Rattle.pc_syntax.specs.Written.{WrittenModel}
use Rattle.pc_ground.specs.declared.front.Front.{Front}
use Rattle.pc_front.specs.{declared.model_front.FrontEnd.{FrontEnd, TheVariants.{Refused, Memory}}, ModelFront.{IsModelFault}}
use Rattle.pc_front.specs.Front.{fault_at, SaysModel, IsFrontOf}

-- the bytes of a model and of a second file say this front
pub record SaysFront (case_of : List ℕ → Case → Type 0) (model second : List ℕ) (front : Front) : Type 0 where
  pub m : WrittenModel
  pub c : Case
  pub says_model : SaysModel model m
  pub says_case : case_of second c
  pub front_of : IsFrontOf m c front
  pub kept : AreMicroOps c.ops

-- the bytes say no model and case
abbrev pub SaysNone : (List ℕ → Case → Type 0) → List ℕ → List ℕ → Type 0
SaysNone case_of model second = (m : WrittenModel) (c : Case) → SaysModel model m → case_of second c → ⊥

-- a fault of two files stands in one of them
abbrev pub IsOfTwo : Which → Type 0
IsOfTwo Model = ⊤
IsOfTwo Test = ⊤
IsOfTwo Query = ⊥

-- a refusal is the first fault of the two, which then say nothing; want of memory is tied to nothing
abbrev pub IsFrontEnd : (List ℕ → Case → Type 0) → (List ℕ → List ℕ → InputFault → Type 0) → List ℕ → List ℕ → FrontEnd
    → Type 0
IsFrontEnd case_of first_fault model second (Refused fault) =
    first_fault model second fault × IsOfTwo fault.file × SaysNone case_of model second
IsFrontEnd case_of first_fault model second Memory = ⊤

-- such files say one case at most, have one first fault at most, and either say a case or have a fault
pub record IsForm (case_of : List ℕ → Case → Type 0)
    (first_fault : List ℕ → List ℕ → InputFault → Type 0) : Type 0 where
  pub one_case : (bytes : List ℕ) (c d : Case) → case_of bytes c → case_of bytes d → c ≡ d
  pub one_fault : (model second : List ℕ) (f g : InputFault) → first_fault model second f → first_fault model second g
      → f ≡ g
  pub no_fault : (model second : List ℕ) (f : InputFault) → first_fault model second f → SaysNone case_of model second
  pub some : (model second : List ℕ)
      → ((m : WrittenModel) × (c : Case) × SaysModel model m × case_of second c)
      ⊎ ((f : InputFault) × first_fault model second f)

-- the first fault of a second file's bytes, as its reader names it and as it is told; want of memory is not told
pub record IsToldFault {T : Type 0} (is_fault : List ℕ → T → Type 0) (told : T → Option InputFault) (bytes : List ℕ)
    (fault : InputFault) : Type 0 where
  pub found : T
  pub first : is_fault bytes found
  pub fault_is : told found ≡ Some fault

-- the first fault of two files: the model's, and where it has none, the second file's
pub data IsFaultOfTwo (second_fault : List ℕ → InputFault → Type 0) (model second : List ℕ) : InputFault → Type 0 where
  in_model : {kind : FaultKind} {at : Place} → IsModelFault model kind at
      → IsFaultOfTwo second_fault model second (fault_at Model kind at)
  in_second : {m : WrittenModel} {fault : InputFault} → SaysModel model m → second_fault second fault
      → IsFaultOfTwo second_fault model second fault

-- a second file of which nothing is known but its size: it may say any case, and has no fault
abbrev pub AnyCase : List ℕ → Case → Type 0
AnyCase bytes c = ⊤

abbrev pub NoFault : List ℕ → List ℕ → InputFault → Type 0
NoFault model second fault = ⊥
