-- What the bytes of a model, of a test and of a query say together: what is asked, or the first fault of the three files.
use Rattle.std.specs.Prelude.{◌≡◌, ⊤, ℕ, List}
use Rattle.pc_common.specs.{Case.{Case}, declared.fault.InputFault.{InputFault}}
use Rattle.litmus_reader.specs.Answer.{CaseOf}
use Rattle.pc_syntax.specs.{Written.{Written, WrittenModel}, Closed.{plain_closed}}
use Rattle.pc_front.specs.{Front.{SaysModel, IsFirstFrontFault as IsFaultOfTwo, ArePartsOf}, ModelFront.{closed_axiom}}
use Rattle.pc_front.specs.declared.model_front.FrontEnd.{FrontEnd, TheVariants.{Refused, Memory}}
use Rattle.ask_command.specs.{Queries.{SaysQuery, IsQueryFault}, declared.inquiry.Inquiry.{Inquiry}}

-- the first fault of three files: that of the model and the test, and where they have none, the query's
pub data IsFirstInquiryFault (model test query : List ℕ) : InputFault → Type 0 where
  in_two : {fault : InputFault} → IsFaultOfTwo model test fault → IsFirstInquiryFault model test query fault
  in_query : {m : WrittenModel} {c : Case} {fault : InputFault} → SaysModel model m → CaseOf test c
      → IsQueryFault m query fault → IsFirstInquiryFault model test query fault

-- these are the parts of the model and the case, and the formula closed
pub record IsInquiryOf (m : WrittenModel) (c : Case) (f : Written) (asked : Inquiry) : Type 0 where
  pub parts_of : ArePartsOf m c asked.parts.case asked.parts.stages asked.parts.axioms
  pub formula_is : plain_closed asked.formula.body ≡ closed_axiom m f

-- the three say this
pub record SaysInquiry (model test query : List ℕ) (asked : Inquiry) : Type 0 where
  pub m : WrittenModel
  pub c : Case
  pub f : Written
  pub says_model : SaysModel model m
  pub says_test : CaseOf test c
  pub says_query : SaysQuery m query f
  pub inquiry_of : IsInquiryOf m c f asked

-- a refusal is the first fault of the three; want of memory is tied to nothing
abbrev pub IsEnd : List ℕ → List ℕ → List ℕ → FrontEnd → Type 0
IsEnd model test query (Refused fault) = IsFirstInquiryFault model test query fault
IsEnd model test query Memory = ⊤
