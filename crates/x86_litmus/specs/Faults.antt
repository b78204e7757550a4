-- The content faults of a listing. Each item is judged by those before it, and the loads once more after the
-- condition.
use Rattle.std.specs.{Prelude.{ℕ, ◌==◌, ◌++◌, List, [], ◌∷◌, Option, Some, None, length, nat_lt, codes, if◌then◌else◌}, Map.{lookup}, Option.{option_map}}
use Rattle.std.specs.Fmt.{decimal}
use Rattle.pc_common.specs.{Names.{same_name}, declared.fault.FaultKind.{FaultKind}}
use Rattle.pc_common.specs.declared.fault.FaultKind.TheVariants.{CoreNumber, TooManyOps, AgainInitial, AgainFinal, X86Column, X86Reload, X86Unloaded, X86Again, X86Open}
use Rattle.pc_common.specs.declared.{value.Value.{Value, TheVariants.{Number}}, limits.TheConstants.{MAX_CORE, MAX_OPS}}
use Rattle.x86_litmus.specs.{Listing.{Named, Action, fence, store, load}, Items.{Item, initial, column, instructed, row_ended, denied, register_is, final}}
use Rattle.x86_litmus.specs.Said.{Instruction, Asked, Said, nothing, add, loads, gives}

-- a fault, and where it stands
pub record Found : Type 0 where
  pub kind : FaultKind
  pub at : ℕ

abbrev pub found : FaultKind → ℕ → Found
found kind at = record { kind = kind; at = at }

-- the value that one of these gives the location
abbrev pub value_at : List (List ℕ × ℕ) → List ℕ → Option ℕ
value_at values word = lookup (same_name word) values

-- a second value of a location: at its name
abbrev pub again : (Value → Value → FaultKind) → List (List ℕ × ℕ) → Named → ℕ → Option Found
again kind before n value =
    option_map (λ first. found (kind (Number first) (Number value)) n.at) (value_at before n.word)

-- the name of a column: P and its number
abbrev pub thread_name : ℕ → List ℕ
thread_name k = codes "P" ++ decimal k

-- a column over the greatest core, or else one of another name: at its name
abbrev pub column_fault : ℕ → Named → Option Found
column_fault k n =
    if nat_lt MAX_CORE k then Some (found (CoreNumber k) n.at)
    else if same_name n.word (thread_name k) then None
    else Some (found X86Column n.at)

-- a register that the thread has loaded before: at the register
abbrev pub reload : List Instruction → ℕ → Action → Option Found
reload before thread fence = None
reload before thread (store location value) = None
reload before thread (load r location) = if loads before thread r.word then Some (found X86Reload r.at) else None

-- one instruction too many: at its word; or else a register loaded again
abbrev pub instruction_fault : List Instruction → ℕ → ℕ → Action → Option Found
instruction_fault before thread at action =
    if nat_lt (length before) MAX_OPS then reload before thread action else Some (found (TooManyOps MAX_OPS) at)

-- a line of another number of cells than the head: at its ";"
abbrev pub row_fault : ℕ → ℕ → ℕ → Option Found
row_fault columns cells at = if cells == columns then None else Some (found X86Column at)

-- a register that its thread doesn't load, or one that has an equation: at the thread's number
abbrev pub register_fault : List Instruction → List Asked → ℕ → ℕ → Named → Option Found
register_fault instructions asked thread at r =
    if loads instructions thread r.word then (if gives asked thread r.word then Some (found X86Again at) else None)
    else Some (found X86Unloaded at)

-- the fault of an item after what was said
abbrev pub fault_of : Said → Item → Option Found
fault_of s (initial n v) = again AgainInitial s.initial n v
fault_of s (column n) = column_fault s.columns n
fault_of s (instructed thread at action) = instruction_fault s.instructions thread at action
fault_of s (row_ended cells at) = row_fault s.columns cells at
fault_of s denied = None
fault_of s (register_is thread at r v) = register_fault s.instructions s.asked thread at r
fault_of s (final n v) = again AgainFinal s.final n v

-- a register that is loaded and has no equation: at the register
abbrev pub open_action : List Asked → ℕ → Action → Option Found
open_action asked thread fence = None
open_action asked thread (store location value) = None
open_action asked thread (load r location) = if gives asked thread r.word then None else Some (found X86Open r.at)

abbrev pub or_else : Option Found → Option Found → Option Found
or_else None other = other
or_else (Some f) other = Some f

-- the first such load
abbrev pub open_fault : List Asked → List Instruction → Option Found
open_fault asked [] = None
open_fault asked (i ∷ is) = or_else (open_action asked i.thread i.action) (open_fault asked is)

-- what a listing comes to: its first fault, or all that it says
pub data Outcome : Type 0 where
  faulty : Found → Outcome
  says : Said → Outcome

abbrev pub unless : Option Found → Outcome → Outcome
unless None outcome = outcome
unless (Some f) outcome = faulty f

-- what it comes to where these items stand after what was said
abbrev pub judged : Said → List Item → Outcome
judged s [] = unless (open_fault s.asked s.instructions) (says s)
judged s (i ∷ is) = unless (fault_of s i) (judged (add s i) is)

abbrev pub outcome_of : List Item → Outcome
outcome_of items = judged nothing items
