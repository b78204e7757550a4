-- The bytes of a query say a formula without a fault, or have a first fault.
use Rattle.std.proofs.Common.{◌≡◌, ℕ, ⊎_elim, inl, inr, List, Option, Some, None, refl}
use Rattle.pc_common.specs.declared.fault.{FaultKind.TheVariants.{Lexical, Syntax, Depth}, Which.TheVariants.{Query}}
use Rattle.ll_grammar.specs.{FirstFault.{IsAnswer}, declared.fault.Fault.{Fault as TokenFault, TheVariants.{Syntax as a_syntax_fault, Depth as a_depth_fault}}}
use Rattle.uspec_lexer.{specs.{Token.{Token, token_place}, Spells.{Spells}}, proofs.Totality.{spells-or_fault}}
use Rattle.uspec_parser.{specs.{declared.level.TheConstants.{MAX_OPENERS}, Marks.{IsMarkedFormula}, Answers.{terminals}}, proofs.Existence.{formula_answer}}
use Rattle.uspec_parser.proofs.Trees.{text_formula}
use Rattle.pc_syntax.specs.Written.{Written, WrittenModel}
use Rattle.scope_check.specs.QueryFaults.{FiledFault}
use Rattle.pc_front.specs.Front.{fault_at}
use Rattle.ask_command.specs.{Queries.{FormulaOf, first_query_fault, lexical, syntax, depth, of_tree}, Laws.{HasQueryOrFault}}

-- of a formula that they say
of_formula : (m : WrittenModel) (bytes : List ℕ) (f : Written) → FormulaOf bytes f → (found : Option FiledFault) → first_query_fault m f ≡ found
    → HasQueryOrFault m bytes
of_formula m bytes f x None none = inl (f, record { formula = x; no_fault = none })
of_formula m bytes f x (Some (file, (kind, at))) is = inr (fault_at file kind at, of_tree x is)

-- of tokens that they spell
of_tokens : (m : WrittenModel) (bytes : List ℕ) (ts : List Token) → Spells bytes ts → (found : Option TokenFault)
    → IsAnswer IsMarkedFormula (terminals ts) found → HasQueryOrFault m bytes
of_tokens m bytes ts spelled None accepted =
    let (f, tree) = text_formula ts accepted.0 in
    of_formula m bytes f (record { tokens = ts; spelled = spelled; tree = tree; accepted = accepted }) (first_query_fault m f) refl
of_tokens m bytes ts spelled (Some (a_syntax_fault k)) first =
    inr (fault_at Query Syntax (record { offset = token_place bytes ts k }), syntax spelled first refl)
of_tokens m bytes ts spelled (Some (a_depth_fault k)) first =
    inr (fault_at Query (Depth MAX_OPENERS) (record { offset = token_place bytes ts k }), depth spelled first refl)

pub query_or_fault : (m : WrittenModel) (bytes : List ℕ) → HasQueryOrFault m bytes
query_or_fault m bytes =
    ⊎_elim
    (λ (ts, spelled). (let (found, is) = formula_answer (terminals ts) in of_tokens m bytes ts spelled found is))
    (λ (k, fault). inr (fault_at Query Lexical (record { offset = k }), lexical fault))
    (spells-or_fault bytes)
