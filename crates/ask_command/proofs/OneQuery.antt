-- Bytes are one formula at most, and none where they have a fault as a query; and they have one first fault at most.
use Rattle.std.proofs.Common.{◌≡◌, ℕ, List, unwrap_or, sym, ◌∙◌, ap, subst}
use Rattle.pc_common.specs.declared.{fault.{FaultKind.TheVariants.{Lexical, Syntax, Depth}, InputFault.{InputFault}}}
use Rattle.pc_common.specs.declared.fault.Which.TheVariants.{Query}
use Rattle.ll_grammar.specs.{FirstFault.{IsFirstTokenFault}, declared.fault.Fault.{Fault as TokenFault}}
use Rattle.ll_grammar.specs.declared.fault.Fault.TheVariants.{Syntax as a_syntax_fault, Depth as a_depth_fault}
use Rattle.uspec_lexer.{specs.{Token.{Token}, Spells.{Spells}}, proofs.SpellsLaws.{spells-unique, spells-no_fault, lexical_fault-unique}}
use Rattle.uspec_parser.specs.{declared.level.TheConstants.{MAX_OPENERS}, Marks.{IsMarkedFormula}, Syntax.{DerivesFormula}, Answers.{terminals}}
use Rattle.uspec_parser.proofs.Trees.{one_formula}
use Rattle.pc_syntax.specs.Written.{Written, WrittenModel}
use Rattle.pc_front.{specs.Front.{fault_at}, proofs.OneTokenFault.{place_is, no_fault_of_accepted, one_token_fault, one_token_place}}
use Rattle.scope_check.specs.QueryFaults.{FiledFault}
use Rattle.ask_command.specs.Queries.{FormulaOf, first_query_fault, SaysQuery, IsQueryFault, lexical, syntax, depth, of_tree}

pub one_whole_formula : (bytes : List ℕ) (f g : Written) → FormulaOf bytes f → FormulaOf bytes g → f ≡ g
one_whole_formula bytes f g x y =
    let P : List Token → Type 0 = λ ts. DerivesFormula ts g in
    one_formula x.tokens f g x.tree (subst P (spells-unique y.spelled x.spelled) y.tree)

accepted_alone : (bytes : List ℕ) (f : Written) (ts : List Token) (fault : TokenFault) → FormulaOf bytes f → Spells bytes ts
    → IsFirstTokenFault IsMarkedFormula (terminals ts) fault → ⊥
accepted_alone bytes f ts fault x spelled is = no_fault_of_accepted terminals IsMarkedFormula bytes x.tokens ts fault x.spelled spelled x.accepted is

-- a query without a fault is not refused
pub no_fault_beside : (m : WrittenModel) (bytes : List ℕ) (f : Written) → SaysQuery m bytes f → (fault : InputFault) → IsQueryFault m bytes fault → ⊥
no_fault_beside m bytes f x _ (lexical fault) = spells-no_fault x.formula.spelled fault
no_fault_beside m bytes f x _ (syntax {ts = ts} {k = k} spelled fault place) = accepted_alone bytes f ts (a_syntax_fault k) x.formula spelled fault
no_fault_beside m bytes f x _ (depth {ts = ts} {k = k} spelled fault place) = accepted_alone bytes f ts (a_depth_fault k) x.formula spelled fault
no_fault_beside m bytes f x _ (of_tree {f = g} y is) =
    let both = sym is ∙ ap (first_query_fault m) (one_whole_formula bytes g f y x.formula) ∙ x.no_fault in
    cc

abbrev input_fault : FiledFault → InputFault
input_fault (file, (kind, at)) = fault_at file kind at

-- bytes have one first fault as a query
pub one_fault : (m : WrittenModel) (bytes : List ℕ) (x y : InputFault) → IsQueryFault m bytes x → IsQueryFault m bytes y → x ≡ y
one_fault m bytes _ _ (lexical {at = p} x) (lexical {at = q} y) = ap (fault_at Query Lexical) (place_is p q (lexical_fault-unique x y))
one_fault m bytes _ _ (lexical x) (syntax spelled f at) = absurd (spells-no_fault spelled x)
one_fault m bytes _ _ (lexical x) (depth spelled f at) = absurd (spells-no_fault spelled x)
one_fault m bytes _ _ (lexical x) (of_tree f is) = absurd (spells-no_fault f.spelled x)
one_fault m bytes _ _ (syntax spelled f at) (lexical y) = absurd (spells-no_fault spelled y)
one_fault m bytes _ _ (syntax {ts = ts} {k = k} {at = p} spelled f at) (syntax {ts = us} {k = l} {at = q} other g there) =
    let same = one_token_fault terminals IsMarkedFormula bytes ts us (a_syntax_fault k) (a_syntax_fault l) spelled other f g in
    ap (fault_at Query Syntax) (one_token_place bytes ts us (a_syntax_fault k) (a_syntax_fault l) p q spelled other same at there)
one_fault m bytes _ _ (syntax {ts = ts} {k = k} spelled f at) (depth {ts = us} {k = l} other g there) =
    let same = one_token_fault terminals IsMarkedFormula bytes ts us (a_syntax_fault k) (a_depth_fault l) spelled other f g in
    absurd (cc)
one_fault m bytes _ _ (syntax {ts = ts} {k = k} spelled f at) (of_tree {f = g} x is) =
    absurd (accepted_alone bytes g ts (a_syntax_fault k) x spelled f)
one_fault m bytes _ _ (depth spelled f at) (lexical y) = absurd (spells-no_fault spelled y)
one_fault m bytes _ _ (depth {ts = ts} {k = k} spelled f at) (syntax {ts = us} {k = l} other g there) =
    let same = one_token_fault terminals IsMarkedFormula bytes ts us (a_depth_fault k) (a_syntax_fault l) spelled other f g in
    absurd (cc)
one_fault m bytes _ _ (depth {ts = ts} {k = k} {at = p} spelled f at) (depth {ts = us} {k = l} {at = q} other g there) =
    let same = one_token_fault terminals IsMarkedFormula bytes ts us (a_depth_fault k) (a_depth_fault l) spelled other f g in
    ap (fault_at Query (Depth MAX_OPENERS)) (one_token_place bytes ts us (a_depth_fault k) (a_depth_fault l) p q spelled other same at there)
one_fault m bytes _ _ (depth {ts = ts} {k = k} spelled f at) (of_tree {f = g} x is) =
    absurd (accepted_alone bytes g ts (a_depth_fault k) x spelled f)
one_fault m bytes _ _ (of_tree f is) (lexical y) = absurd (spells-no_fault f.spelled y)
one_fault m bytes _ _ (of_tree {f = f} x is) (syntax {ts = us} {k = l} other g there) =
    absurd (accepted_alone bytes f us (a_syntax_fault l) x other g)
one_fault m bytes _ _ (of_tree {f = f} x is) (depth {ts = us} {k = l} other g there) =
    absurd (accepted_alone bytes f us (a_depth_fault l) x other g)
one_fault m bytes _ _ (of_tree {f = f} {file = v} {kind = j} {at = p} x is) (of_tree {f = g} {file = w} {kind = k} {at = q} y are) =
    let same = sym is ∙ ap (first_query_fault m) (one_whole_formula bytes f g x y) ∙ are in
    ap (λ o. input_fault (unwrap_or o (v, (j, p)))) same
