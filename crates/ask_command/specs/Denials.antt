-- The steps of reading a query: its denial as a model's last axiom, and the ends of its faults.
use Rattle.std.specs.Prelude.{◌≡◌, ℕ, List, Option}
use Rattle.pc_common.specs.declared.{fault.{FaultKind.TheVariants.{Syntax, Depth}, Which.{Which, TheVariants.{Query}}}, place.Place.{Place}}
use Rattle.pc_syntax.specs.{declared.expanded.Expanded.{Expanded}, Written.{Written, written, WrittenModel}, Observable.{macros_of}, Expansion.{expansion_of}}
use Rattle.pc_syntax.specs.Fault.{Fault}
use Rattle.uspec_lexer.specs.Token.{Token, token_place}
use Rattle.uspec_parser.specs.declared.{level.TheConstants.{MAX_OPENERS}, fault.ParseFault.{ParseFault}}
use Rattle.uspec_parser.specs.declared.fault.ParseFault.TheVariants.{Syntax as a_syntax_fault, Depth as a_depth_fault, Memory as no_memory}
use Rattle.macro_expand.specs.Faults.{IsExpandable}
use Rattle.scope_check.specs.QueryFaults.{IsFiledOr}
use Rattle.pc_front.specs.{Ends.{end_of}, Front.{fault_at}, declared.model_front.FrontEnd.{FrontEnd, TheVariants.{Refused, Memory}}}
use Rattle.ask_command.specs.Queries.{with_axiom, with_denial, first_query_fault}

-- an end with its fault told of this file
abbrev pub moved_end : Which → FrontEnd → FrontEnd
moved_end file (Refused fault) = Refused (fault_at file fault.kind fault.place)
moved_end file Memory = Memory

abbrev pub place_of_token : List ℕ → List Token → ℕ → Place
place_of_token bytes ts k = record { offset = token_place bytes ts k }

-- the fault of a parser tells the number of a token
abbrev pub parse_end : List ℕ → List Token → ParseFault → FrontEnd
parse_end bytes ts (a_syntax_fault k) = Refused (fault_at Query Syntax (place_of_token bytes ts k))
parse_end bytes ts (a_depth_fault k) = Refused (fault_at Query (Depth MAX_OPENERS) (place_of_token bytes ts k))
parse_end bytes ts no_memory = Memory

-- the model's last item is an axiom
abbrev pub EndsWithAxiom : WrittenModel → Type 0
EndsWithAxiom n = (m : WrittenModel) × (w : Written) × (n ≡ with_axiom m w)

-- and that is a denial
abbrev pub EndsWithDenial : WrittenModel → Type 0
EndsWithDenial n = (m : WrittenModel) × (f : Written) × (n ≡ with_denial m f)

-- the model has no macro or size fault, and this is its last axiom with its macros expanded
pub record IsLastExpansion (n : WrittenModel) (e : Expanded) : Type 0 where
  pub expandable : IsExpandable n
  pub last : (m : WrittenModel) (w : Written) → n ≡ with_axiom m w → written e.body ≡ expansion_of (macros_of n) w

-- the end is that of the first fault of the formula beside the model, or memory was refused
abbrev pub IsFirstQueryEnd : WrittenModel → Written → FrontEnd → Type 0
IsFirstQueryEnd m f end =
    (file : Which) × (o : Option Fault) × IsFiledOr (first_query_fault m f) file o × (end ≡ moved_end file (end_of o))
