-- The status and the text of an ending, and of what a command returns.
use Rattle.std.specs.{Prelude.{◌≡◌, ◌++◌, ⊤, ℕ, List, [], Result, Ok, Err, MatchResult, codes}, Fmt.{decimal}}
use Rattle.pc_common.specs.{Case.{Case}, LineColumn.{line_of, column_of}, declared.status.Status.{Status, TheVariants.{Refused, ReadFault, Memory}}}
use Rattle.pc_common.specs.declared.{fault.{InputFault.{InputFault}, Which.{Which, TheVariants.{Model, Test, Query}}}, reading.ReadEnd.{ReadEnd}}
use Rattle.pc_common.specs.declared.reading.ReadEnd.TheVariants.{ReadFault as an_outside_fault, TooLarge as past_limit, Memory as no_memory}
use Rattle.pc_ground.specs.declared.front.Front.{Front}
use Rattle.command_base.specs.declared.{refusal.Refusal.{Refusal}, ending.Ending.{Ending}}
use Rattle.command_base.specs.declared.ending.Ending.TheVariants.{ReadFault as a_read_fault, Memory as a_memory, Refused as a_refusal}
use Rattle.command_base.specs.declared.feed_end.FeedEnd.{FeedEnd, TheVariants.{ReadFault as a_failed_call, Memory as refused_memory}}
use Rattle.command_base.specs.{Words.{fault_word, file_word}, Inputs.{too_large}, SecondFiles.{SaysFront, SaysNone, IsOfTwo}}

abbrev pub refusal_text : Refusal → List ℕ
refusal_text r =
    codes "refused " ++ file_word r.fault.file ++ codes " " ++ fault_word r.fault.kind ++ codes " at "
    ++ decimal r.line ++ codes ":" ++ decimal r.column ++ codes "\n"

-- how a command ends whose third file could not be checked
abbrev pub ending_of : FeedEnd → Ending
ending_of a_failed_call = a_read_fault
ending_of refused_memory = a_memory

-- nothing is written of the two that have no text
abbrev pub ending_text : Ending → List ℕ
ending_text a_read_fault = []
ending_text a_memory = []
ending_text (a_refusal r) = refusal_text r

abbrev pub ending_status : Ending → Status
ending_status a_read_fault = ReadFault
ending_status a_memory = Memory
ending_status (a_refusal r) = Refused

-- the status and the text of what a command returns, by those of its answers
abbrev pub returned_status : {T : Type 0} → (T → Status) → Result T Ending → Status
returned_status status (Ok answer) = status answer
returned_status status (Err ending) = ending_status ending

abbrev pub returned_text : {T : Type 0} → (T → List ℕ) → Result T Ending → List ℕ
returned_text text (Ok answer) = text answer
returned_text text (Err ending) = ending_text ending

-- the outcome is that of the status and the text of what a command returns
abbrev pub HasOutcome : {T : Type 0} → Result T Ending → (T → Status) → (T → List ℕ) → (Status → List ℕ → Type 0)
    → Type 0
HasOutcome result status text outcome = outcome (returned_status status result) (returned_text text result)

-- the line and the column are those of the fault's place in these bytes
abbrev pub IsPlaced : List ℕ → Refusal → Type 0
IsPlaced bytes r = (r.line ≡ line_of bytes r.fault.place.offset) × (r.column ≡ column_of bytes r.fault.place.offset)

-- the bytes of the file that a fault is in
abbrev pub bytes_of : Which → List ℕ → List ℕ → List ℕ
bytes_of Model model second = model
bytes_of Test model second = second
bytes_of Query model second = []  -- no query is read

-- the ending where the bytes of two files that were read say no front
abbrev pub IsBytesEnding : (List ℕ → Case → Type 0) → (List ℕ → List ℕ → InputFault → Type 0) → List ℕ → List ℕ → Ending
    → Type 0
IsBytesEnding case_of first_fault model second (a_refusal r) =
    first_fault model second r.fault × IsOfTwo r.fault.file × SaysNone case_of model second
    × IsPlaced (bytes_of r.fault.file model second) r
IsBytesEnding case_of first_fault model second a_memory = ⊤
IsBytesEnding case_of first_fault model second a_read_fault = ⊥

-- the front that these bytes say, or the ending
abbrev pub ReturnsFront : (List ℕ → Case → Type 0) → (List ℕ → List ℕ → InputFault → Type 0) → List ℕ → List ℕ
    → Result Front Ending → Type 0
ReturnsFront case_of first_fault model second result =
    MatchResult result (SaysFront case_of model second) (IsBytesEnding case_of first_fault model second)

-- the ending where a file could not be read whole
abbrev pub IsUnread : Which → ReadEnd → Ending → Type 0
IsUnread file an_outside_fault e = e ≡ a_read_fault
IsUnread file no_memory e = e ≡ a_memory
IsUnread file past_limit (a_refusal r) = (r.fault ≡ too_large file) × (r.line ≡ 1) × (r.column ≡ 1)
IsUnread file past_limit a_read_fault = ⊥
IsUnread file past_limit a_memory = ⊥
