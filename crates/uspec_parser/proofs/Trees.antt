-- Accepted tokens have a tree, the one that the descent builds.
use Rattle.std.proofs.{Common.{◌≡◌, Bool, List, [], ◌∷◌, map, Option, Some, None, refl, sym, ap, subst, ◌∙◌}, lemmas.List.{append-nil}}
use Rattle.ll_grammar.specs.{Rules.{Derives}, Texts.{IsText}, FirstFault.{IsAccepted, IsAnswer}, declared.fault.Fault.{Fault, TheVariants.{Syntax, Depth}}}
use Rattle.pc_syntax.specs.{declared.model.StageItem.{StageItem}, Written.{Written, WrittenItem, WrittenModel}}
use Rattle.uspec_lexer.specs.Token.{Token}
use Rattle.uspec_parser.specs.{Terminals.{Lexeme, terminal, terminal_of, lexeme}, Operands.{Operands, formula_of}}
use Rattle.uspec_parser.specs.Syntax.{Formula, spelled_formula, meant_operands, meant_formula, DerivesFormula, Item, spelled_model, stages_of, items_of, meant_model, DerivesModel}
use Rattle.uspec_parser.specs.{Marks.{IsMarkedFormula, IsMarkedModel, marks_model, marks_outer}, Levels.{level_of}, Phrases.{rules}}
use Rattle.uspec_parser.specs.{Answers.{terminals, refusal_of, IsParseRefusal}, Descent.{Row, Items}, declared.terminal.Terminal.{Terminal}}
use Rattle.uspec_parser.specs.declared.{fault.ParseFault.{ParseFault}, phrase.Phrase.TheVariants.{Operand as OperandPhrase, Items as ItemsPhrase}}
use Rattle.uspec_parser.proofs.{Lexemes.{terminal-lexeme_by}, Payloads.{payloads_of_tokens}, DerivedIsMarked.{formula_read, model_read}}
use Rattle.uspec_parser.proofs.{MarkedIsDerived.{formula_derived, model_derived}, Complete.{row_of, items_made}, OneTree.{one_row, one_items}, Steps.{RowOf}}

pub terminals-lexemes : (ts : List Token) → map terminal (map lexeme ts) ≡ terminals ts
terminals-lexemes [] = refl
terminals-lexemes (t ∷ ts) = let head = terminal-lexeme_by (terminal_of t) t in let rest = terminals-lexemes ts in cc

-- a formula's text makes one row
formula_row : (f : Formula) (l : Operands) (rest : List Lexeme) → Row (spelled_formula f) l rest → l ≡ meant_operands f
formula_row f l rest built =
    (one_row built (subst (λ (xs : List Lexeme). Row xs (meant_operands f) []) (append-nil (spelled_formula f)) (row_of f [] (refl, refl)))).0

pub formula_tree : (ts : List Token) (w : Written) (rest : List Lexeme) → IsAccepted IsMarkedFormula (terminals ts)
    → RowOf (map lexeme ts) w rest → DerivesFormula ts w
formula_tree ts w rest ((marks, marked), none) (l, built, same) =
    let reads = formula_derived (terminals ts) marks marked in
    let (f, text, _) = formula_read (map lexeme ts) marks (payloads_of_tokens ts)
    (subst (λ (cs : List Terminal). Derives rules (OperandPhrase (level_of 0) 0) cs marks) (sym (terminals-lexemes ts)) reads) in
    let one = formula_row f l rest (subst (λ (xs : List Lexeme). Row xs l rest) text built) in
    (f, text, same ∙ ap formula_of one)

-- no tokens have two trees
pub one_formula : (ts : List Token) (w v : Written) → DerivesFormula ts w → DerivesFormula ts v → w ≡ v
one_formula ts w v (f, e, p) (g, q, r) =
    let first = subst (λ (xs : List Lexeme). Row xs (meant_operands f) []) (append-nil (spelled_formula f)) (row_of f [] (refl, refl)) in
    let both = subst (λ (xs : List Lexeme). Row xs (meant_operands f) []) (sym e ∙ q) first in
    p ∙ ap formula_of (formula_row g (meant_operands f) [] both) ∙ sym r

-- the answer as a refusal
pub refused : (Marked : List Terminal → List Bool → Type 0) (cs : List Terminal) (fault : Fault) → IsAnswer Marked cs (Some fault)
    → IsParseRefusal Marked cs (refusal_of fault)
refused Marked cs (Syntax k) h = h
refused Marked cs (Depth k) h = h

pub refusal_is : (Marked : List Terminal → List Bool → Type 0) (cs ds : List Terminal) (found : Option Fault) (fault : Fault) (e : ParseFault)
    → IsAnswer Marked cs found → cs ≡ ds → found ≡ Some fault → e ≡ refusal_of fault → IsParseRefusal Marked ds e
refusal_is Marked cs ds found fault e answer same is refusal =
    subst (λ (r : ParseFault). IsParseRefusal Marked ds r) (sym refusal)
    (refused Marked ds fault (subst (λ (f : Option Fault). IsAnswer Marked ds f) is (subst (λ (ts : List Terminal). IsAnswer Marked ts found) same answer)))

pub accepted_is : (Marked : List Terminal → List Bool → Type 0) (cs ds : List Terminal) (found : Option Fault)
    → IsAnswer Marked cs found → cs ≡ ds → found ≡ None → IsAccepted Marked ds
accepted_is Marked cs ds found answer same is =
    subst (λ (f : Option Fault). IsAnswer Marked ds f) is (subst (λ (ts : List Terminal). IsAnswer Marked ts found) same answer)

-- a model's text makes one file
model_items : (is : List Item) (ss : List StageItem) (lines : List WrittenItem) → Items (spelled_model is) ss lines
    → record { stages = ss; items = lines } ≡ meant_model is
model_items is ss lines built =
    let (stages, items) = one_items built (items_made is) in λ i. record { stages = stages i; items = items i }

pub model_tree : (ts : List Token) (m : WrittenModel) → IsAccepted IsMarkedModel (terminals ts) → Items (map lexeme ts) m.stages m.items
    → DerivesModel ts m
model_tree ts m ((marks, marked), none) built =
    let reads = model_derived (terminals ts) marks marked in
    let (is, text, _) = model_read (map lexeme ts) marks (payloads_of_tokens ts)
    (subst (λ (cs : List Terminal). Derives rules ItemsPhrase cs marks) (sym (terminals-lexemes ts)) reads) in
    (is, text, model_items is m.stages m.items (subst (λ (xs : List Lexeme). Items xs m.stages m.items) text built))

pub one_model : (ts : List Token) (m n : WrittenModel) → DerivesModel ts m → DerivesModel ts n → m ≡ n
one_model ts m n (is, e, p) (js, q, r) =
    let both = subst (λ (xs : List Lexeme). Items xs (stages_of is) (items_of is)) (sym e ∙ q) (items_made is) in
    p ∙ model_items js (stages_of is) (items_of is) both ∙ sym r

-- tokens have a tree exactly if their terminals are those of a text
pub model_text : (ts : List Token) → ((m : WrittenModel) × DerivesModel ts m) → IsText IsMarkedModel (terminals ts)
model_text ts (m, (is, e, p)) = (marks_model is, (is, sym (terminals-lexemes ts) ∙ ap (map terminal) e, refl))

pub text_model : (ts : List Token) → IsText IsMarkedModel (terminals ts) → (m : WrittenModel) × DerivesModel ts m
text_model ts (marks, marked) =
    let reads = model_derived (terminals ts) marks marked in
    let (is, text, _) = model_read (map lexeme ts) marks (payloads_of_tokens ts)
    (subst (λ (cs : List Terminal). Derives rules ItemsPhrase cs marks) (sym (terminals-lexemes ts)) reads) in
    (meant_model is, (is, text, refl))

pub formula_text : (ts : List Token) → ((w : Written) × DerivesFormula ts w) → IsText IsMarkedFormula (terminals ts)
formula_text ts (w, (f, e, p)) = (marks_outer f, (f, sym (terminals-lexemes ts) ∙ ap (map terminal) e, refl))

pub text_formula : (ts : List Token) → IsText IsMarkedFormula (terminals ts) → (w : Written) × DerivesFormula ts w
text_formula ts (marks, marked) =
    let reads = formula_derived (terminals ts) marks marked in
    let (f, text, _) = formula_read (map lexeme ts) marks (payloads_of_tokens ts)
    (subst (λ (cs : List Terminal). Derives rules (OperandPhrase (level_of 0) 0) cs marks) (sym (terminals-lexemes ts)) reads) in
    (meant_formula f, (f, text, refl))
