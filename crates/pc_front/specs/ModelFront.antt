-- What the bytes of a whole model say: its stages and its closed axioms, or its first fault.
use Rattle.std.specs.Prelude.{◌≡◌, ℕ, ⊤, List, [], Some, None, map}
use Rattle.pc_common.specs.{Case.{Case}, World.{Node, World}, declared.{place.Place.{Place}, fault.FaultKind.{FaultKind, TheVariants.{Lexical, Syntax, Depth}}}}
use Rattle.pc_common.specs.declared.fault.Which.TheVariants.{Model}
use Rattle.ll_grammar.specs.{FirstFault.{IsAccepted, IsFirstTokenFault}, declared.fault.Fault.TheVariants.{Syntax as a_syntax_fault, Depth as a_depth_fault}}
use Rattle.uspec_lexer.specs.{Token.{Token, token_place}, Spells.{Spells, IsLexicalFault}}
use Rattle.uspec_parser.specs.{declared.level.TheConstants.{MAX_OPENERS}, Marks.{IsMarkedModel}, Syntax.{DerivesModel}, Answers.{terminals}}
use Rattle.pc_syntax.specs.{declared.model.StageItem.{StageItem}, Written.{Written, WrittenModel}, Observable.{axioms_of, macros_of, satisfies}}
use Rattle.pc_syntax.specs.{Expansion.{expansion_of}, Closed.{PlainClosed, closed_satisfies}, Closing.{closing_of}, ModelFault.{first_model_fault}}
use Rattle.pc_ground.specs.Stages.{plain_stage, plain_axioms}
use Rattle.pc_front.specs.declared.model_front.{ModelFront.{ModelFront}, FrontEnd.{FrontEnd, TheVariants.{Refused, Memory}}}

-- the bytes spell a model of this tree, and no opener of it stands too deep
pub record ModelOf (bytes : List ℕ) (m : WrittenModel) : Type 0 where
  pub tokens : List Token
  pub spelled : Spells bytes tokens
  pub tree : DerivesModel tokens m
  pub accepted : IsAccepted IsMarkedModel (terminals tokens)

-- the first fault of a model's bytes: of its bytes, of its tokens, or of what its tree says
pub data IsModelFault (bytes : List ℕ) : FaultKind → Place → Type 0 where
  lexical : {at : Place} → IsLexicalFault bytes at.offset → IsModelFault bytes Lexical at
  syntax : {ts : List Token} {k : ℕ} {at : Place} → Spells bytes ts
      → IsFirstTokenFault IsMarkedModel (terminals ts) (a_syntax_fault k)
      → at.offset ≡ token_place bytes ts k → IsModelFault bytes Syntax at
  depth : {ts : List Token} {k : ℕ} {at : Place} → Spells bytes ts
      → IsFirstTokenFault IsMarkedModel (terminals ts) (a_depth_fault k)
      → at.offset ≡ token_place bytes ts k → IsModelFault bytes (Depth MAX_OPENERS) at
  of_tree : {m : WrittenModel} {kind : FaultKind} {at : Place} → ModelOf bytes m
      → first_model_fault m ≡ Some (kind, at)
      → IsModelFault bytes kind at

abbrev pub written_stage : StageItem → ℕ × List ℕ
written_stage s = (s.number, s.name.name)

-- an axiom with its macros expanded and its names resolved
abbrev pub closed_axiom : WrittenModel → Written → PlainClosed
closed_axiom m w = closing_of m.stages [] (expansion_of (macros_of m) w)

-- the stages of the model, and its axioms, closed; in each case and world they are true exactly where the model's are
pub record IsModelFrontOf (m : WrittenModel) (front : ModelFront) : Type 0 where
  pub no_fault : first_model_fault m ≡ None
  pub stages : map plain_stage front.stages ≡ map written_stage m.stages
  pub axioms : plain_axioms front.axioms ≡ map (closed_axiom m) (axioms_of m)
  pub true_alike : (c : Case) (w : World Node) → satisfies m c w ≡ closed_satisfies (plain_axioms front.axioms) c w

abbrev pub IsModelFront : List ℕ → ModelFront → Type 0
IsModelFront bytes front = (m : WrittenModel) × ModelOf bytes m × IsModelFrontOf m front

-- a refusal is the model's first fault; want of memory is tied to nothing
abbrev pub IsModelEnd : List ℕ → FrontEnd → Type 0
IsModelEnd bytes (Refused fault) = (fault.file ≡ Model) × IsModelFault bytes fault.kind fault.place
IsModelEnd bytes Memory = ⊤
