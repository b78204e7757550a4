-- What holds of the bytes of every listing. Want of memory counts as no fault.
use Rattle.std.specs.Prelude.{◌≡◌, ◌≢◌, ◌⊎◌, ℕ, List}
use Rattle.pc_common.specs.Case.{Case}
use Rattle.x86_litmus.specs.{Answer.{CaseOf, IsX86Fault}, declared.fault.X86Fault.{X86Fault, TheVariants.{Memory}}}

-- a fault of the bytes
abbrev pub IsFault : List ℕ → X86Fault → Type 0
IsFault bytes fault = (fault ≢ Memory) × IsX86Fault bytes fault

abbrev pub HasCaseOrFault : List ℕ → Type 0
HasCaseOrFault bytes = ((c : Case) × CaseOf bytes c) ⊎ ((f : X86Fault) × IsFault bytes f)

abbrev pub HasOneCase : List ℕ → Type 0
HasOneCase bytes = (c d : Case) → CaseOf bytes c → CaseOf bytes d → c ≡ d

abbrev pub HasOneFault : List ℕ → Type 0
HasOneFault bytes = (e f : X86Fault) → IsFault bytes e → IsFault bytes f → e ≡ f

-- not both
abbrev pub ListingExcludesFault : List ℕ → Type 0
ListingExcludesFault bytes = (c : Case) (f : X86Fault) → CaseOf bytes c → IsFault bytes f → ⊥
