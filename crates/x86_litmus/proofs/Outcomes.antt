-- What is read of a listing's tokens, as a case or a fault of its bytes.
use Rattle.std.proofs.Common.{◌≡◌, ℕ, List, Option, Some, None, sym, ap, ◌∙◌}
use Rattle.pc_common.specs.{Case.{Case}, declared.{place.Place.{Place}, fault.FaultKind.{FaultKind}}}
use Rattle.uspec_lexer.specs.Token.{Token}
use Rattle.x86_litmus.specs.{Syntax.{IsListing}, Said.{Said}, Faults.{Found, found, open_fault, says, unless, outcome_of}, Cases.{case_of}}
use Rattle.x86_litmus.specs.{Reading.{items_in, IsReadTo, IsFaultIn, CaseIn, IsListingFault}, Answer.{IsBody, CaseOf, IsX86Fault}, Sound.{IsSound}}
use Rattle.x86_litmus.{specs.declared.fault.X86Fault.{X86Fault, TheVariants.{Lexical, Syntax, Content, Memory}}, proofs.Readings.{read_listing}}
use Rattle.x86_litmus.proofs.Sounds.{sound}

-- no load is open
pub said_of : (ts : List Token) (s : Said) → IsReadTo ts s → None ≡ open_fault s.asked s.instructions → outcome_of (items_in ts) ≡ says s
said_of ts s read none = read ∙ ap (λ (o : Option Found). unless o (says s)) (sym none)

pub sound_of : (ts : List Token) (s : Said) → IsReadTo ts s → None ≡ open_fault s.asked s.instructions → IsSound s
sound_of ts s read none = sound (items_in ts) s (said_of ts s read none)

pub case_in : (ts : List Token) (s : Said) (case : Case) → IsListing ts → IsReadTo ts s → None ≡ open_fault s.asked s.instructions
    → case ≡ case_of s → CaseIn ts case
case_in ts s case (l, is) read none same =
    (l, s, is, ap outcome_of (sym (read_listing l ts is)) ∙ said_of ts s read none, same)

-- the first load that is open
pub open_in : (ts : List Token) (s : Said) (kind : FaultKind) (place : Place) → IsListing ts → IsReadTo ts s
    → Some (found kind place.offset) ≡ open_fault s.asked s.instructions → IsListingFault ts (Content kind place)
open_in ts s kind place (l, is) read some =
    (l, is, ap outcome_of (sym (read_listing l ts is)) ∙ read ∙ ap (λ (o : Option Found). unless o (says s)) (sym some))

pub fault_in : (ts : List Token) (fault : X86Fault) → IsListing ts → IsFaultIn ts fault → IsListingFault ts fault
fault_in ts (Content kind place) (l, is) here = (l, is, ap outcome_of (sym (read_listing l ts is)) ∙ here)
fault_in ts Memory l here = tt
fault_in ts (Lexical place) l here = absurd here
fault_in ts (Syntax place) l here = absurd here

-- what the tokens say, the bytes say
pub case_of_bytes : (bytes : List ℕ) (ts : List Token) → IsBody bytes ts → (case : Case) → CaseIn ts case → CaseOf bytes case
case_of_bytes bytes ts spelled case (l, s, is, comes, same) =
    (s, record { tokens = ts; spelled = spelled; listing = l; is_listing = is; comes = comes }, same)

pub fault_of_bytes : (bytes : List ℕ) (ts : List Token) → IsBody bytes ts → (fault : X86Fault) → IsListingFault ts fault → IsX86Fault bytes fault
fault_of_bytes bytes ts spelled (Content kind place) (l, is, comes) =
    record { tokens = ts; spelled = spelled; listing = l; is_listing = is; comes = comes }
fault_of_bytes bytes ts spelled Memory here = tt
fault_of_bytes bytes ts spelled (Lexical place) here = absurd here
fault_of_bytes bytes ts spelled (Syntax place) here = absurd here
