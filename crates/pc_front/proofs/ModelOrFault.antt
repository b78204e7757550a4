-- The bytes of a model say one without a fault, or have a first fault.
use Rattle.std.proofs.Common.{◌≡◌, ℕ, ⊎_elim, inl, inr, List, Option, Some, None, refl}
use Rattle.pc_common.specs.declared.fault.FaultKind.TheVariants.{Lexical, Syntax, Depth}
use Rattle.ll_grammar.specs.{FirstFault.{IsAnswer}, declared.fault.Fault.{Fault as TokenFault, TheVariants.{Syntax as a_syntax_fault, Depth as a_depth_fault}}}
use Rattle.uspec_lexer.{specs.{Token.{Token, token_place}, Spells.{Spells}}, proofs.Totality.{spells-or_fault}}
use Rattle.uspec_parser.{specs.{declared.level.TheConstants.{MAX_OPENERS}, Marks.{IsMarkedModel}, Answers.{terminals}}, proofs.Existence.{model_answer}}
use Rattle.uspec_parser.proofs.Trees.{text_model}
use Rattle.pc_syntax.specs.{Fault.{Fault}, Written.{WrittenModel}, ModelFault.{first_model_fault}}
use Rattle.pc_front.specs.{ModelFront.{ModelOf, lexical, syntax, depth, of_tree}, Laws.{HasModelOrFault}}

-- of a model that they say
of_model : (bytes : List ℕ) (m : WrittenModel) → ModelOf bytes m → (found : Option Fault) → first_model_fault m ≡ found → HasModelOrFault bytes
of_model bytes m x None none = inl (m, record { model = x; no_fault = none })
of_model bytes m x (Some (kind, at)) is = inr (kind, at, of_tree x is)

-- of tokens that they spell
of_tokens : (bytes : List ℕ) (ts : List Token) → Spells bytes ts → (found : Option TokenFault) → IsAnswer IsMarkedModel (terminals ts) found
    → HasModelOrFault bytes
of_tokens bytes ts spelled None accepted =
    let (m, tree) = text_model ts accepted.0 in
    of_model bytes m (record { tokens = ts; spelled = spelled; tree = tree; accepted = accepted }) (first_model_fault m) refl
of_tokens bytes ts spelled (Some (a_syntax_fault k)) first =
    inr (Syntax, record { offset = token_place bytes ts k }, syntax spelled first refl)
of_tokens bytes ts spelled (Some (a_depth_fault k)) first =
    inr (Depth MAX_OPENERS, record { offset = token_place bytes ts k }, depth spelled first refl)

pub model_or_fault : (bytes : List ℕ) → HasModelOrFault bytes
model_or_fault bytes =
    ⊎_elim
    (λ (ts, spelled). (let (found, is) = model_answer (terminals ts) in of_tokens bytes ts spelled found is))
    (λ (k, fault). inr (Lexical, record { offset = k }, lexical fault))
    (spells-or_fault bytes)
