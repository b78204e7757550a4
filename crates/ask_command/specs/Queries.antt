-- What the bytes of a query say: a formula that may be asked of a model, or the first fault.
use Rattle.std.specs.{Prelude.{◌≡◌, ⊤, ℕ, List, [], ◌∷◌, ◌++◌, Option, Some, None}, Option.{option_or}}
use Rattle.ll_grammar.specs.{FirstFault.{IsAccepted, IsFirstTokenFault}, declared.fault.Fault.TheVariants.{Syntax as a_syntax_fault, Depth as a_depth_fault}}
use Rattle.pc_common.specs.declared.{place.Place.{Place}, fault.{FaultKind.{FaultKind, TheVariants.{Lexical, Syntax, Depth}}, InputFault.{InputFault}}}
use Rattle.pc_common.specs.declared.fault.Which.{Which, TheVariants.{Query}}
use Rattle.pc_syntax.specs.{Written.{Written, not_, axiom_, WrittenModel}, Observable.{macros_of}, MacroFaults.{first_macro_fault}, Sizes.{first_size_fault}}
use Rattle.uspec_lexer.specs.{Token.{Token, token_place}, Spells.{Spells, IsLexicalFault}}
use Rattle.uspec_parser.specs.{declared.level.TheConstants.{MAX_OPENERS}, Marks.{IsMarkedFormula}, Syntax.{DerivesFormula}, Answers.{terminals}}
use Rattle.scope_check.specs.QueryFaults.{FiledFault, filed, query_fault}
use Rattle.pc_front.specs.{Front.{fault_at}, declared.model_front.FrontEnd.{FrontEnd, TheVariants.{Refused, Memory}}}

-- the bytes spell one formula of this tree and nothing after it, and no opener of it stands too deep
pub record FormulaOf (bytes : List ℕ) (f : Written) : Type 0 where
  pub tokens : List Token
  pub spelled : Spells bytes tokens
  pub tree : DerivesFormula tokens f
  pub accepted : IsAccepted IsMarkedFormula (terminals tokens)

abbrev pub first_byte : Place
first_byte = record { offset = 0 }

-- the model with this axiom after its last item. The axiom stands in no model's file: its place is the query's first byte
abbrev pub with_axiom : WrittenModel → Written → WrittenModel
with_axiom m f = record { stages = m.stages; items = m.items ++ axiom_ first_byte f ∷ [] }

-- the model with the denial of the formula as its last axiom
abbrev pub with_denial : WrittenModel → Written → WrittenModel
with_denial m f = with_axiom m (not_ f)

-- the first fault of a formula that is asked of a model without faults: that of its denial as the model's last axiom.
-- Of macros and of sizes it stands in the query, of names in the query or in the body of a macro of the model
abbrev pub first_query_fault : WrittenModel → Written → Option FiledFault
first_query_fault m f =
    option_or
    (filed Query (option_or (first_macro_fault (with_denial m f)) (first_size_fault (with_denial m f))))
    (query_fault m.stages (macros_of m) [] (not_ f))

-- the bytes say this formula, and it has no fault where it is asked of the model
pub record SaysQuery (m : WrittenModel) (bytes : List ℕ) (f : Written) : Type 0 where
  pub formula : FormulaOf bytes f
  pub no_fault : first_query_fault m f ≡ None

-- the first fault of a query's bytes beside a model without faults: of the bytes, of the tokens, or of what the tree says
pub data IsQueryFault (m : WrittenModel) (bytes : List ℕ) : InputFault → Type 0 where
  lexical : {at : Place} → IsLexicalFault bytes at.offset → IsQueryFault m bytes (fault_at Query Lexical at)
  syntax : {ts : List Token} {k : ℕ} {at : Place} → Spells bytes ts
      → IsFirstTokenFault IsMarkedFormula (terminals ts) (a_syntax_fault k)
      → at.offset ≡ token_place bytes ts k → IsQueryFault m bytes (fault_at Query Syntax at)
  depth : {ts : List Token} {k : ℕ} {at : Place} → Spells bytes ts
      → IsFirstTokenFault IsMarkedFormula (terminals ts) (a_depth_fault k)
      → at.offset ≡ token_place bytes ts k → IsQueryFault m bytes (fault_at Query (Depth MAX_OPENERS) at)
  of_tree : {f : Written} {file : Which} {kind : FaultKind} {at : Place} → FormulaOf bytes f
      → first_query_fault m f ≡ Some (file, (kind, at))
      → IsQueryFault m bytes (fault_at file kind at)

-- a refusal is the query's first fault; want of memory is tied to nothing
abbrev pub IsQueryEnd : WrittenModel → List ℕ → FrontEnd → Type 0
IsQueryEnd m bytes (Refused fault) = IsQueryFault m bytes fault
IsQueryEnd m bytes Memory = ⊤
