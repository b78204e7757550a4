-- Why the code takes no item more: its fault, or want of memory.
use Rattle.std.specs.Prelude.{◌≡◌, ⊤, Option, Some}
use Rattle.x86_litmus.specs.{Faults.{Found, found}, declared.fault.X86Fault.{X86Fault, TheVariants.{Lexical, Syntax, Content, Memory}}}

abbrev pub IsListingRefusal : Option Found → X86Fault → Type 0
IsListingRefusal fault (Content kind place) = fault ≡ Some (found kind place.offset)
IsListingRefusal fault Memory = ⊤
IsListingRefusal fault (Lexical place) = ⊥
IsListingRefusal fault (Syntax place) = ⊥
