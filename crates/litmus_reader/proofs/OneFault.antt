-- A text has one first fault at most.
use Rattle.std.proofs.Common.{◌≡◌, ◌≢◌, ℕ, List, refl, sym, ap, subst, ◌∙◌}
use Rattle.pc_common.specs.declared.place.Place.{Place}
use Rattle.ll_grammar.{specs.FirstFault.{IsFaultAt}, proofs.Faults.{one_place, no_place}}
use Rattle.uspec_lexer.{specs.Token.{Token, token_place}, proofs.SpellsLaws.{spells-unique, spells-no_fault, lexical_fault-unique}}
use Rattle.litmus_reader.specs.{Syntax.{IsTestOf, IsTest}, Content.{IsContentFault}, Answer.{IsTextOf, IsSyntaxFault, IsCaseFault}, declared.item.Item.{Item}}
use Rattle.litmus_reader.{specs.declared.fault.CaseFault.{CaseFault, TheVariants.{Lexical, Syntax, Content, Memory}}, proofs.Exclusive.{one_reading}}
use Rattle.litmus_reader.proofs.OneContentFault.{one_content_fault}

one_syntax_fault : (bytes : List ℕ) (p q : Place) → IsSyntaxFault bytes p → IsSyntaxFault bytes q → p ≡ q
one_syntax_fault bytes p q f g =
    let tokens = spells-unique g.spelled f.spelled in
    let there : IsFaultAt IsTest f.tokens g.k = subst (λ (ts : List Token). IsFaultAt IsTest ts g.k) tokens g.fault in
    let one = one_place IsTest f.tokens f.k g.k f.fault there in
    let offset : p.offset ≡ q.offset =
    f.at ∙ ap (λ (k : ℕ). token_place bytes f.tokens k) one
    ∙ ap (λ (ts : List Token). token_place bytes ts g.k) (sym tokens) ∙ sym g.at in
    λ i. record { offset = offset i }

test_or_syntax : (bytes : List ℕ) (place : Place) (items : List Item) → IsSyntaxFault bytes place → IsTextOf bytes items → ⊥
test_or_syntax bytes place items f said =
    no_place IsTest f.tokens f.k (items, subst (IsTestOf items) (spells-unique said.spelled f.spelled) said.test) f.fault

-- a text has one first fault at most
pub one_fault : (bytes : List ℕ) (e f : CaseFault) → e ≢ Memory → f ≢ Memory → IsCaseFault bytes e → IsCaseFault bytes f → e ≡ f
one_fault bytes (Lexical p) (Lexical q) _ _ r s = let offset = lexical_fault-unique r s in λ i. Lexical (record { offset = offset i })
one_fault bytes (Lexical p) (Syntax q) _ _ r s = absurd (spells-no_fault s.spelled r)
one_fault bytes (Lexical p) (Content kind q) _ _ r (items, said, s) = absurd (spells-no_fault said.spelled r)
one_fault bytes (Syntax p) (Lexical q) _ _ r s = absurd (spells-no_fault r.spelled s)
one_fault bytes (Syntax p) (Syntax q) _ _ r s = ap Syntax (one_syntax_fault bytes p q r s)
one_fault bytes (Syntax p) (Content kind q) _ _ r (items, said, s) = absurd (test_or_syntax bytes p items r said)
one_fault bytes (Content kind p) (Lexical q) _ _ (items, said, r) s = absurd (spells-no_fault said.spelled s)
one_fault bytes (Content kind p) (Syntax q) _ _ (items, said, r) s = absurd (test_or_syntax bytes q items s said)
one_fault bytes (Content j p) (Content k q) _ _ (xs, said_x, r) (ys, said_y, s) =
    let (kinds, places) = one_content_fault xs j k p q r
    (subst (λ (is : List Item). IsContentFault is k q) (one_reading bytes ys xs said_y said_x) s) in
    λ i. Content (kinds i) (places i)
one_fault bytes Memory f not _ r s = absurd (not refl)
one_fault bytes e Memory _ not r s = absurd (not refl)
