-- What the reader finds in the tokens of a listing.
use Rattle.std.specs.Prelude.{◌≡◌, ⊤, List, []}
use Rattle.pc_common.specs.Case.{Case}
use Rattle.uspec_lexer.specs.Token.{Token}
use Rattle.x86_litmus.specs.{Listing.{Listing}, Syntax.{IsListingOf}, Items.{Item, items_of}, Said.{Said}, Spots.{block, items_from}}
use Rattle.x86_litmus.specs.{Faults.{faulty, says, found, outcome_of, judged}, Cases.{case_of}, declared.fault.X86Fault.{X86Fault}}
use Rattle.x86_litmus.specs.declared.fault.X86Fault.TheVariants.{Lexical, Syntax, Content, Memory}

-- what the tokens say, from the first to the last
abbrev pub items_in : List Token → List Item
items_in ts = items_from block ts

-- no item has a fault, and together they say this
abbrev pub IsReadTo : List Token → Said → Type 0
IsReadTo ts s = outcome_of (items_in ts) ≡ judged s []

-- the first fault of content of what the tokens say
abbrev pub IsFaultIn : List Token → X86Fault → Type 0
IsFaultIn ts (Content kind place) = outcome_of (items_in ts) ≡ faulty (found kind place.offset)
IsFaultIn ts Memory = ⊤
IsFaultIn ts (Lexical place) = ⊥
IsFaultIn ts (Syntax place) = ⊥

-- the tokens are a listing of this case
abbrev pub CaseIn : List Token → Case → Type 0
CaseIn ts case =
    (l : Listing) × (s : Said) × IsListingOf l ts × (outcome_of (items_of l) ≡ says s) × (case ≡ case_of s)

-- the tokens are a listing with this first fault
abbrev pub IsListingFault : List Token → X86Fault → Type 0
IsListingFault ts (Content kind place) =
    (l : Listing) × IsListingOf l ts × (outcome_of (items_of l) ≡ faulty (found kind place.offset))
IsListingFault ts Memory = ⊤
IsListingFault ts (Lexical place) = ⊥
IsListingFault ts (Syntax place) = ⊥
