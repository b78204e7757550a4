-- Bytes are one whole model at most, and none where they have a fault; and they have one first fault at most.
use Rattle.std.proofs.Common.{◌≡◌, ℕ, List, None, unwrap_or, refl, sym, ◌∙◌, ap, subst}
use Rattle.pc_common.specs.declared.{place.Place.{Place}, fault.FaultKind.{FaultKind}}
use Rattle.ll_grammar.specs.{FirstFault.{IsFirstTokenFault}, declared.fault.Fault.{Fault as TokenFault}}
use Rattle.ll_grammar.specs.declared.fault.Fault.TheVariants.{Syntax as a_syntax_fault, Depth as a_depth_fault}
use Rattle.uspec_lexer.{specs.{Token.{Token}, Spells.{Spells}}, proofs.SpellsLaws.{spells-unique, spells-no_fault, lexical_fault-unique}}
use Rattle.uspec_parser.{specs.{Marks.{IsMarkedModel}, Syntax.{DerivesModel}, Answers.{terminals}}, proofs.Trees.{one_model}}
use Rattle.pc_syntax.specs.{Written.{WrittenModel}, ModelFault.{first_model_fault}}
use Rattle.pc_front.specs.ModelFront.{ModelOf, IsModelFault, lexical, syntax, depth, of_tree}
use Rattle.pc_front.proofs.OneTokenFault.{place_is, no_fault_of_accepted, one_token_fault, one_token_place}

pub one_whole_model : (bytes : List ℕ) (m n : WrittenModel) → ModelOf bytes m → ModelOf bytes n → m ≡ n
one_whole_model bytes m n x y =
    let P : List Token → Type 0 = λ ts. DerivesModel ts n in
    one_model x.tokens m n x.tree (subst P (spells-unique y.spelled x.spelled) y.tree)

accepted_alone : (bytes : List ℕ) (m : WrittenModel) (ts : List Token) (f : TokenFault) → ModelOf bytes m → Spells bytes ts
    → IsFirstTokenFault IsMarkedModel (terminals ts) f → ⊥
accepted_alone bytes m ts f x spelled fault = no_fault_of_accepted terminals IsMarkedModel bytes x.tokens ts f x.spelled spelled x.accepted fault

-- a model without a fault is not refused
pub no_whole_fault : (bytes : List ℕ) (m : WrittenModel) → ModelOf bytes m → first_model_fault m ≡ None
    → (kind : FaultKind) (at : Place) → IsModelFault bytes kind at → ⊥
no_whole_fault bytes m x none _ at (lexical fault) = spells-no_fault x.spelled fault
no_whole_fault bytes m x none _ at (syntax {ts = ts} {k = k} spelled fault place) = accepted_alone bytes m ts (a_syntax_fault k) x spelled fault
no_whole_fault bytes m x none _ at (depth {ts = ts} {k = k} spelled fault place) = accepted_alone bytes m ts (a_depth_fault k) x spelled fault
no_whole_fault bytes m x none kind at (of_tree {m = n} y is) =
    let same = ap first_model_fault (one_whole_model bytes n m y x) in
    let both = sym is ∙ same ∙ none in
    cc

-- bytes have one first fault as a model
pub one_model_fault : (bytes : List ℕ) (j k : FaultKind) (p q : Place) → IsModelFault bytes j p → IsModelFault bytes k q
    → (j ≡ k) × (p ≡ q)
one_model_fault bytes _ _ p q (lexical x) (lexical y) = (refl, place_is p q (lexical_fault-unique x y))
one_model_fault bytes _ _ p q (lexical x) (syntax spelled f at) = absurd (spells-no_fault spelled x)
one_model_fault bytes _ _ p q (lexical x) (depth spelled f at) = absurd (spells-no_fault spelled x)
one_model_fault bytes _ _ p q (lexical x) (of_tree m is) = absurd (spells-no_fault m.spelled x)
one_model_fault bytes _ _ p q (syntax spelled f at) (lexical y) = absurd (spells-no_fault spelled y)
one_model_fault bytes _ _ p q (syntax {ts = ts} {k = k} spelled f at) (syntax {ts = us} {k = l} other g there) =
    let same = one_token_fault terminals IsMarkedModel bytes ts us (a_syntax_fault k) (a_syntax_fault l) spelled other f g in
    (refl, one_token_place bytes ts us (a_syntax_fault k) (a_syntax_fault l) p q spelled other same at there)
one_model_fault bytes _ _ p q (syntax {ts = ts} {k = k} spelled f at) (depth {ts = us} {k = l} other g there) =
    let same = one_token_fault terminals IsMarkedModel bytes ts us (a_syntax_fault k) (a_depth_fault l) spelled other f g in
    absurd (cc)
one_model_fault bytes _ _ p q (syntax {ts = ts} {k = k} spelled f at) (of_tree {m = m} x is) =
    absurd (accepted_alone bytes m ts (a_syntax_fault k) x spelled f)
one_model_fault bytes _ _ p q (depth spelled f at) (lexical y) = absurd (spells-no_fault spelled y)
one_model_fault bytes _ _ p q (depth {ts = ts} {k = k} spelled f at) (syntax {ts = us} {k = l} other g there) =
    let same = one_token_fault terminals IsMarkedModel bytes ts us (a_depth_fault k) (a_syntax_fault l) spelled other f g in
    absurd (cc)
one_model_fault bytes _ _ p q (depth {ts = ts} {k = k} spelled f at) (depth {ts = us} {k = l} other g there) =
    let same = one_token_fault terminals IsMarkedModel bytes ts us (a_depth_fault k) (a_depth_fault l) spelled other f g in
    (refl, one_token_place bytes ts us (a_depth_fault k) (a_depth_fault l) p q spelled other same at there)
one_model_fault bytes _ _ p q (depth {ts = ts} {k = k} spelled f at) (of_tree {m = m} x is) =
    absurd (accepted_alone bytes m ts (a_depth_fault k) x spelled f)
one_model_fault bytes _ _ p q (of_tree m is) (lexical y) = absurd (spells-no_fault m.spelled y)
one_model_fault bytes _ _ p q (of_tree {m = m} x is) (syntax {ts = us} {k = l} other g there) =
    absurd (accepted_alone bytes m us (a_syntax_fault l) x other g)
one_model_fault bytes _ _ p q (of_tree {m = m} x is) (depth {ts = us} {k = l} other g there) =
    absurd (accepted_alone bytes m us (a_depth_fault l) x other g)
one_model_fault bytes j k p q (of_tree {m = m} x is) (of_tree {m = n} y are) =
    let same = sym is ∙ ap first_model_fault (one_whole_model bytes m n x y) ∙ are in
    let both : (j, p) ≡ (k, q) = ap (λ o. unwrap_or o (j, p)) same in
    (ap (λ f. f.0) both, ap (λ f. f.1) both)
