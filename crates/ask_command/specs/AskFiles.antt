-- The three files of `ask`: what they say together, their first fault, and the refusal by it.
use Rattle.std.specs.Prelude.{◌≡◌, ◌⊎◌, ⊤, ℕ, List, Some, None, IsTrue}
use Rattle.pc_common.specs.{Outside.{FilesView}, Case.{Case}, Reads.{Reads}, declared.fault.{InputFault.{InputFault}, Which.{Which}}}
use Rattle.pc_common.specs.declared.{fault.Which.TheVariants.{Model, Test, Query}, status.Status.{Status, TheVariants.{Refused}}}
use Rattle.pc_case.specs.MicroOps.{AreMicroOps}
use Rattle.pc_syntax.specs.{Written.{Written, WrittenModel}, ModelFault.{first_model_fault}}
use Rattle.litmus_reader.specs.Answer.{CaseOf}
use Rattle.ask_command.specs.{Queries.{SaysQuery, first_query_fault}, Inquiries.{IsInquiryOf, IsFirstInquiryFault as IsFaultOfBytes}}
use Rattle.ask_command.specs.declared.inquiry.Inquiry.{Inquiry}
use Rattle.command_base.specs.{Inputs.{Inputs, Contents, IsRead, IsTooLarge, too_large, Says, LacksInput}, Refusals.{refused_text}}
use Rattle.command_base.specs.{Endings.{ending_status, ending_text, IsPlaced}, Outcomes.{IsOutcome}, declared.ending.Ending.{Ending}}
use Rattle.command_base.specs.declared.ending.Ending.TheVariants.{ReadFault as a_read_fault, Memory as a_memory, Refused as a_refusal}

-- the name of a file
abbrev pub name_of : Which → Inputs → List ℕ → List ℕ
name_of Model i query = i.model
name_of Test i query = i.test
name_of Query i query = query

-- the bytes of the file that a fault is in
abbrev pub bytes_of : Which → List ℕ → List ℕ → List ℕ → List ℕ
bytes_of Model model test query = model
bytes_of Test model test query = test
bytes_of Query model test query = query

-- the ending where the bytes of the three files say nothing that can be asked
abbrev pub IsBytesEnding : List ℕ → List ℕ → List ℕ → Ending → Type 0
IsBytesEnding model test query (a_refusal r) =
    IsFaultOfBytes model test query r.fault × IsPlaced (bytes_of r.fault.file model test query) r
IsBytesEnding model test query a_memory = ⊤
IsBytesEnding model test query a_read_fault = ⊥

-- all three are read
pub record AreRead (holds : Contents) (i : Inputs) (query mb tb qb : List ℕ) : Type 0 where
  pub model : IsRead holds i.model mb
  pub test : IsRead holds i.test tb
  pub third : IsRead holds query qb

-- what the three files say
pub record SaysAll (holds : Contents) (i : Inputs) (query : List ℕ) (m : WrittenModel) (c : Case) (f : Written) : Type 0 where
  pub two : Says CaseOf holds i m c
  pub bytes : List ℕ
  pub query_read : IsRead holds query bytes
  pub says_query : SaysQuery m bytes f

-- the first fault: size as the files are read, in their order; then that of the bytes of the three
pub data IsFirstAskFault (holds : Contents) (i : Inputs) (query : List ℕ) : InputFault → Type 0 where
  large_model : IsTooLarge holds i.model → IsFirstAskFault holds i query (too_large Model)
  large_test : {mb : List ℕ} → IsRead holds i.model mb → IsTooLarge holds i.test
      → IsFirstAskFault holds i query (too_large Test)
  large_query : {mb tb : List ℕ} → IsRead holds i.model mb → IsRead holds i.test tb → IsTooLarge holds query
      → IsFirstAskFault holds i query (too_large Query)
  in_bytes : {mb tb qb : List ℕ} {fault : InputFault} → AreRead holds i query mb tb qb → IsFaultOfBytes mb tb qb fault
      → IsFirstAskFault holds i query fault

-- the refusal by it
pub data IsAskRefusal (holds : Contents) (i : Inputs) (query : List ℕ) : Status → List ℕ → Type 0 where
  refusal : {bytes : List ℕ} {fault : InputFault} → IsFirstAskFault holds i query fault
      → holds (name_of fault.file i query) ≡ Some bytes
      → IsAskRefusal holds i query Refused (refused_text bytes fault)

abbrev pub WasRead : Contents → List ℕ → Type 0
WasRead holds name = (bytes : List ℕ) × IsRead holds name bytes

-- a name that is come to is not held: one of the first two, or where these were read, the query's
abbrev pub LacksAskedFile : Contents → Inputs → List ℕ → Type 0
LacksAskedFile holds i query = LacksInput holds i ⊎ (WasRead holds i.model × WasRead holds i.test × (holds query ≡ None))

-- what is asked of a model and a case, which modelled files say; files that fail only at missing names hold all names
pub record HasInquiry {F : Type 0} (view : F → FilesView) (i : Inputs) (query : List ℕ) (old new : F)
    (asked : Inquiry) : Type 0 where
  pub keeps : Reads view old new
  pub m : WrittenModel
  pub c : Case
  pub f : Written
  pub sound : first_model_fault m ≡ None
  pub askable : first_query_fault m f ≡ None
  pub inquiry_of : IsInquiryOf m c f asked
  pub kept : AreMicroOps c.ops
  pub says : IsTrue (view old).modelled → SaysAll (view old).holds i query m c f
  pub held : IsTrue (view old).only_missing_fail → LacksAskedFile (view old).holds i query → ⊥

module _ {F : Type 0} (view : F → FilesView) (i : Inputs) (query : List ℕ) where
  -- the ending of the command at its files: over modelled files a refusal, if it is no fault of the outside
  abbrev pub IsFilesEnding : F → F → Ending → Type 0
  IsFilesEnding old new e =
      IsOutcome view ⊥ (IsTrue (view old).modelled) (LacksAskedFile (view old).holds i query)
      (IsAskRefusal (view old).holds i query) old new (ending_status e) (ending_text e)
