-- What the bytes of a model and of a test say together: a front, or the first fault of the two files.
use Rattle.std.specs.Prelude.{◌≡◌, ⊤, ℕ, List, Option, Some, None}
use Rattle.pc_common.specs.{Case.{Case}, declared.fault.{FaultKind.{FaultKind, TheVariants.{Lexical, Syntax}}, InputFault.{InputFault}, Which.{Which}}}
use Rattle.pc_common.specs.declared.{fault.Which.TheVariants.{Model, Test}, place.Place.{Place}}
use Rattle.pc_syntax.specs.{Written.{WrittenModel}, ModelFault.{first_model_fault}, declared.closed.Closed.{Closed}}
use Rattle.litmus_reader.specs.{Answer.{CaseOf, IsCaseFault}, declared.fault.CaseFault.{CaseFault}}
use Rattle.litmus_reader.specs.declared.fault.CaseFault.TheVariants.{Lexical as a_lexical_fault, Syntax as a_syntax_fault, Content as a_fault_of_content, Memory as no_memory}
use Rattle.pc_ground.specs.{declared.{stage.Stage.{Stage}, parts.Parts.{Parts}, front.Front.{Front}}, Rows.{rows_of}, GroundTree.{ground_tree}}
use Rattle.pc_front.specs.{declared.model_front.FrontEnd.{FrontEnd, TheVariants.{Refused, Memory}}, ModelFront.{ModelOf, IsModelFault, IsModelFrontOf}}

abbrev pub fault_at : Which → FaultKind → Place → InputFault
fault_at file kind place = record { file = file; place = place; kind = kind }

-- the fault that the reader of tests names, with its file
abbrev pub case_fault_of : CaseFault → Option InputFault
case_fault_of (a_lexical_fault place) = Some (fault_at Test Lexical place)
case_fault_of (a_syntax_fault place) = Some (fault_at Test Syntax place)
case_fault_of (a_fault_of_content kind place) = Some (fault_at Test kind place)
case_fault_of no_memory = None

-- the first fault of a test's bytes
pub record IsTestFault (bytes : List ℕ) (fault : InputFault) : Type 0 where
  pub found : CaseFault
  pub first : IsCaseFault bytes found
  pub fault_is : case_fault_of found ≡ Some fault

-- the bytes say this model, and it has no fault
pub record SaysModel (bytes : List ℕ) (m : WrittenModel) : Type 0 where
  pub model : ModelOf bytes m
  pub no_fault : first_model_fault m ≡ None

-- the first fault of two files: the model's, and where it has none, the test's
pub data IsFirstFrontFault (model test : List ℕ) : InputFault → Type 0 where
  in_model : {kind : FaultKind} {at : Place} → IsModelFault model kind at
      → IsFirstFrontFault model test (fault_at Model kind at)
  in_test : {m : WrittenModel} {fault : InputFault} → SaysModel model m → IsTestFault test fault
      → IsFirstFrontFault model test fault

-- these are the parts of a model and a case: the case, the model's stages, and its axioms, closed
pub record ArePartsOf (m : WrittenModel) (c : Case) (d : Case) (stages : List Stage)
    (axioms : List Closed) : Type 0 where
  pub case : d ≡ c
  pub model : IsModelFrontOf m (record { stages = stages; axioms = axioms })

-- the front of a model and a case: their parts, and the model's ground tree in this case
pub record IsFrontOf (m : WrittenModel) (c : Case) (front : Front) : Type 0 where
  pub parts : ArePartsOf m c front.case front.stages front.axioms
  pub tree : front.tree ≡ rows_of (ground_tree m c)

-- the bytes of a model and of a test say these parts
pub record SayParts (model test : List ℕ) (parts : Parts) : Type 0 where
  pub m : WrittenModel
  pub c : Case
  pub says_model : SaysModel model m
  pub says_test : CaseOf test c
  pub parts_of : ArePartsOf m c parts.case parts.stages parts.axioms

-- they say this front
pub record SayFront (model test : List ℕ) (front : Front) : Type 0 where
  pub m : WrittenModel
  pub c : Case
  pub says_model : SaysModel model m
  pub says_test : CaseOf test c
  pub front_of : IsFrontOf m c front

-- a refusal is the first fault of the two; want of memory is tied to nothing
abbrev pub IsEnd : List ℕ → List ℕ → FrontEnd → Type 0
IsEnd model test (Refused fault) = IsFirstFrontFault model test fault
IsEnd model test Memory = ⊤
