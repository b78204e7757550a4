-- What holds of the bytes of every test. Want of memory counts as no fault.
use Rattle.std.specs.Prelude.{◌≡◌, ◌≢◌, ◌⊎◌, ◌≤◌, ⊤, ℕ, List, length}
use Rattle.pc_common.specs.Case.{Case}
use Rattle.litmus_reader.specs.{Answer.{CaseOf, IsCaseFault}, declared.fault.CaseFault.{CaseFault, TheVariants.{Lexical, Syntax, Content, Memory}}}

-- a fault of the bytes
abbrev pub IsFault : List ℕ → CaseFault → Type 0
IsFault bytes fault = (fault ≢ Memory) × IsCaseFault bytes fault

abbrev pub HasCaseOrFault : List ℕ → Type 0
HasCaseOrFault bytes = ((c : Case) × CaseOf bytes c) ⊎ ((f : CaseFault) × IsFault bytes f)

abbrev pub HasOneCase : List ℕ → Type 0
HasOneCase bytes = (c d : Case) → CaseOf bytes c → CaseOf bytes d → c ≡ d

abbrev pub HasOneFault : List ℕ → Type 0
HasOneFault bytes = (e f : CaseFault) → IsFault bytes e → IsFault bytes f → e ≡ f

-- not both
abbrev pub TestExcludesFault : List ℕ → Type 0
TestExcludesFault bytes = (c : Case) (f : CaseFault) → CaseOf bytes c → IsFault bytes f → ⊥

-- the place that the fault names is one of the bytes, or their end
abbrev pub IsWithin : List ℕ → CaseFault → Type 0
IsWithin bytes (Lexical place) = place.offset ≤ length bytes
IsWithin bytes (Syntax place) = place.offset ≤ length bytes
IsWithin bytes (Content kind place) = place.offset ≤ length bytes
IsWithin bytes Memory = ⊤

abbrev pub HasFaultsWithin : List ℕ → Type 0
HasFaultsWithin bytes = (f : CaseFault) → IsFault bytes f → IsWithin bytes f
