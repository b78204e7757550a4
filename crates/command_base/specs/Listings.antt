-- The first fault of the bytes of a model and of a listing.
use Rattle.std.specs.Prelude.{ℕ, List, Option, Some, None}
use Rattle.pc_common.specs.declared.fault.{FaultKind.TheVariants.{Lexical, Syntax}, InputFault.{InputFault}, Which.TheVariants.{Test}}
use Rattle.pc_front.specs.{declared.model_front.FrontEnd.{FrontEnd, TheVariants.{Refused, Memory}}, Front.{fault_at}}
use Rattle.x86_litmus.specs.{Answer.{IsX86Fault}, declared.fault.X86Fault.{X86Fault}}
use Rattle.x86_litmus.specs.declared.fault.X86Fault.TheVariants.{Lexical as a_lexical_fault, Syntax as a_syntax_fault, Content as a_fault_of_content, Memory as no_memory}
use Rattle.command_base.specs.SecondFiles.{IsToldFault, IsFaultOfTwo}

-- the fault that the reader of listings names, in the second file
abbrev pub listing_fault_of : X86Fault → Option InputFault
listing_fault_of (a_lexical_fault place) = Some (fault_at Test Lexical place)
listing_fault_of (a_syntax_fault place) = Some (fault_at Test Syntax place)
listing_fault_of (a_fault_of_content kind place) = Some (fault_at Test kind place)
listing_fault_of no_memory = None

-- the first fault of two files: the model's, and where it has none, the listing's
abbrev pub IsFirstListingFault : List ℕ → List ℕ → InputFault → Type 0
IsFirstListingFault = IsFaultOfTwo (IsToldFault IsX86Fault listing_fault_of)

-- how the fault of a listing ends the reading; without one, memory was refused
abbrev pub end_of_fault : Option InputFault → FrontEnd
end_of_fault None = Memory
end_of_fault (Some fault) = Refused fault

abbrev pub listing_end : X86Fault → FrontEnd
listing_end fault = end_of_fault (listing_fault_of fault)
