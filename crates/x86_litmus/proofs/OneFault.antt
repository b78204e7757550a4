-- A text has one first fault at most.
use Rattle.std.proofs.Common.{◌≡◌, ◌≢◌, ℕ, inl, inr, List, refl, sym, ap, subst, ◌∙◌}
use Rattle.pc_common.specs.declared.{place.Place.{Place}, fault.FaultKind.{FaultKind}}
use Rattle.ll_grammar.{specs.FirstFault.{IsFaultAt}, proofs.Faults.{one_place}}
use Rattle.uspec_lexer.{specs.Token.{Token, token_place}, proofs.SpellsLaws.{spells-no_fault, lexical_fault-unique}}
use Rattle.x86_litmus.specs.{Tokens.{IsLexicalFault}, Header.{fault}, Syntax.{IsListing}, Faults.{Found, faulty, found}, Answer.{IsTokenFault, IsX86Fault}}
use Rattle.x86_litmus.specs.declared.fault.X86Fault.{X86Fault, TheVariants.{Lexical, Syntax, Content, Memory}}
use Rattle.x86_litmus.proofs.OneReading.{one_body, no_body, one_list, one_outcome, no_lexical, no_token_fault}

one_token_fault : (bytes : List ℕ) (p q : Place) → IsTokenFault bytes p → IsTokenFault bytes q → p.offset ≡ q.offset
one_token_fault bytes p q f g =
    let tokens = one_list g.spelled f.spelled in
    let there : IsFaultAt IsListing f.tokens g.k = subst (λ (ts : List Token). IsFaultAt IsListing ts g.k) tokens g.fault_at in
    let one = one_place IsListing f.tokens f.k g.k f.fault_at there in
    f.at ∙ ap (λ (k : ℕ). token_place bytes f.tokens k) one
    ∙ ap (λ (ts : List Token). token_place bytes ts g.k) (sym tokens) ∙ sym g.at

place_is : (p q : Place) → p.offset ≡ q.offset → p ≡ q
place_is p q offset = λ i. record { offset = offset i }

one_syntax : (bytes : List ℕ) (p q : Place) → IsX86Fault bytes (Syntax p) → IsX86Fault bytes (Syntax q) → p ≡ q
one_syntax bytes p q (inl e) (inl f) =
    let same : fault p.offset ≡ fault q.offset = sym e ∙ f in
    let offset : p.offset ≡ q.offset = cc in
    place_is p q offset
one_syntax bytes p q (inl e) (inr g) = absurd (no_body bytes g.spelled.header e)
one_syntax bytes p q (inr f) (inl e) = absurd (no_body bytes f.spelled.header e)
one_syntax bytes p q (inr f) (inr g) = place_is p q (one_token_fault bytes p q f g)

lexical_or_syntax : (bytes : List ℕ) (p q : Place) → IsX86Fault bytes (Lexical p) → IsX86Fault bytes (Syntax q) → ⊥
lexical_or_syntax bytes p q (from, header, f) (inl e) = no_body bytes header e
lexical_or_syntax bytes p q (from, header, f) (inr g) =
    spells-no_fault g.spelled.spelled (subst (λ (i : ℕ). IsLexicalFault bytes i p.offset) (one_body bytes header g.spelled.header) f)

syntax_or_content : (bytes : List ℕ) (p q : Place) (kind : FaultKind) → IsX86Fault bytes (Syntax p) → IsX86Fault bytes (Content kind q) → ⊥
syntax_or_content bytes p q kind (inl e) s = no_body bytes s.spelled.header e
syntax_or_content bytes p q kind (inr f) s = no_token_fault s (f.k, f.tokens, f.spelled, f.fault_at)

lexical_or_content : (bytes : List ℕ) (p q : Place) (kind : FaultKind) → IsX86Fault bytes (Lexical p) → IsX86Fault bytes (Content kind q) → ⊥
lexical_or_content bytes p q kind (from, header, f) s = no_lexical s header f

-- a text has one first fault at most
pub one_fault : (bytes : List ℕ) (e f : X86Fault) → e ≢ Memory → f ≢ Memory → IsX86Fault bytes e → IsX86Fault bytes f → e ≡ f
one_fault bytes (Lexical p) (Lexical q) _ _ (i, h, r) (j, g, s) =
    let there : IsLexicalFault bytes i q.offset = subst (λ (k : ℕ). IsLexicalFault bytes k q.offset) (one_body bytes g h) s in
    ap Lexical (place_is p q (lexical_fault-unique r there))
one_fault bytes (Lexical p) (Syntax q) _ _ r s = absurd (lexical_or_syntax bytes p q r s)
one_fault bytes (Lexical p) (Content kind q) _ _ r s = absurd (lexical_or_content bytes p q kind r s)
one_fault bytes (Syntax p) (Lexical q) _ _ r s = absurd (lexical_or_syntax bytes q p s r)
one_fault bytes (Syntax p) (Syntax q) _ _ r s = ap Syntax (one_syntax bytes p q r s)
one_fault bytes (Syntax p) (Content kind q) _ _ r s = absurd (syntax_or_content bytes p q kind r s)
one_fault bytes (Content kind p) (Lexical q) _ _ r s = absurd (lexical_or_content bytes q p kind s r)
one_fault bytes (Content kind p) (Syntax q) _ _ r s = absurd (syntax_or_content bytes q p kind s r)
one_fault bytes (Content j p) (Content k q) _ _ r s =
    let both : faulty (found j p.offset) ≡ faulty (found k q.offset) = one_outcome r s in
    let one : found j p.offset ≡ found k q.offset = cc in
    let place = place_is p q (ap (λ (f : Found). f.at) one) in
    let kind : j ≡ k = ap (λ (f : Found). f.kind) one in
    λ i. Content (kind i) (place i)
one_fault bytes Memory f not _ r s = absurd (not refl)
one_fault bytes e Memory _ not r s = absurd (not refl)
