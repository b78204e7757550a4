-- The ends of the readers' faults.
use Rattle.std.specs.Prelude.{ℕ, List, Option, Some, None}
use Rattle.pc_common.specs.declared.fault.{FaultKind.TheVariants.{Lexical, Syntax, Depth}, InputFault.{InputFault}, Which.TheVariants.{Model}}
use Rattle.pc_common.specs.declared.place.Place.{Place}
use Rattle.uspec_lexer.specs.{Token.{Token, token_place}, declared.fault.LexFault.{LexFault, TheVariants.{Lexical as a_lexical_fault, Memory as no_memory}}}
use Rattle.uspec_parser.specs.declared.{level.TheConstants.{MAX_OPENERS}, fault.ParseFault.{ParseFault}}
use Rattle.uspec_parser.specs.declared.fault.ParseFault.TheVariants.{Syntax as a_syntax_fault, Depth as a_depth_fault, Memory as no_memory_to_parse}
use Rattle.pc_syntax.specs.Fault.{Fault}
use Rattle.macro_expand.specs.{Faults.{macro_fault_of}, declared.fault.MacroFault.{MacroFault}}
use Rattle.scope_check.specs.{FirstFault.{name_fault_of}, declared.fault.NameFault.{NameFault}}
use Rattle.litmus_reader.specs.declared.fault.CaseFault.{CaseFault}
use Rattle.pc_front.specs.{declared.model_front.FrontEnd.{FrontEnd, TheVariants.{Refused, Memory}}, Front.{fault_at, case_fault_of}}

-- the first fault of a model; without one, memory was refused
abbrev pub end_of : Option Fault → FrontEnd
end_of None = Memory
end_of (Some (kind, place)) = Refused (fault_at Model kind place)

abbrev pub lexical_end : LexFault → FrontEnd
lexical_end (a_lexical_fault place) = Refused (fault_at Model Lexical place)
lexical_end no_memory = Memory

abbrev pub place_of_token : List ℕ → List Token → ℕ → Place
place_of_token bytes ts k = record { offset = token_place bytes ts k }

-- the fault of a parser tells the number of a token
abbrev pub parse_end : List ℕ → List Token → ParseFault → FrontEnd
parse_end bytes ts (a_syntax_fault k) = Refused (fault_at Model Syntax (place_of_token bytes ts k))
parse_end bytes ts (a_depth_fault k) = Refused (fault_at Model (Depth MAX_OPENERS) (place_of_token bytes ts k))
parse_end bytes ts no_memory_to_parse = Memory

abbrev pub macro_end : MacroFault → FrontEnd
macro_end fault = end_of (macro_fault_of fault)

abbrev pub name_end : NameFault → FrontEnd
name_end fault = end_of (name_fault_of fault)

-- the first fault of a test; without one, memory was refused
abbrev pub test_end_of : Option InputFault → FrontEnd
test_end_of None = Memory
test_end_of (Some fault) = Refused fault

abbrev pub case_end : CaseFault → FrontEnd
case_end fault = test_end_of (case_fault_of fault)
