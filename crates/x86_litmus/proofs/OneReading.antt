-- A text has one case at most, and none where it has a first fault.
use Rattle.std.proofs.Common.{◌≡◌, ◌≢◌, ℕ, inl, inr, List, refl, sym, ap, subst, ◌∙◌}
use Rattle.pc_common.specs.Case.{Case}
use Rattle.ll_grammar.{specs.FirstFault.{IsFaultAt}, proofs.Faults.{no_place}}
use Rattle.uspec_lexer.{specs.Token.{Token}, proofs.SpellsLaws.{spells-unique, spells-no_fault}}
use Rattle.x86_litmus.specs.{Tokens.{Spells, IsLexicalFault}, Header.{body, fault, header_of}, Syntax.{IsListingOf, IsListing}}
use Rattle.x86_litmus.specs.{Faults.{Outcome, faulty, says, found, outcome_of}, Cases.{case_of}, Reading.{items_in}}
use Rattle.x86_litmus.specs.{Answer.{IsBody, ComesTo, CaseOf, IsX86Fault}, declared.fault.X86Fault.{X86Fault, TheVariants.{Lexical, Syntax, Content, Memory}}}
use Rattle.x86_litmus.proofs.Readings.{read_listing}

pub one_body : (bytes : List ℕ) {j k : ℕ} → header_of bytes ≡ body j → header_of bytes ≡ body k → j ≡ k
one_body bytes {j} {k} e f = let same : body j ≡ body k = sym e ∙ f in cc

pub no_body : (bytes : List ℕ) {j k : ℕ} → header_of bytes ≡ body j → header_of bytes ≡ fault k → ⊥
no_body bytes {j} {k} e f = let same : body j ≡ fault k = sym e ∙ f in cc

-- a text has one list of tokens after its header
pub one_list : {bytes : List ℕ} {ts us : List Token} → IsBody bytes ts → IsBody bytes us → ts ≡ us
one_list {bytes} {ts} {us} s t =
    spells-unique s.spelled (subst (λ (from : ℕ). Spells bytes from us) (one_body bytes t.header s.header) t.spelled)

-- and comes to one thing
pub one_outcome : {bytes : List ℕ} {x y : Outcome} → ComesTo bytes x → ComesTo bytes y → x ≡ y
one_outcome s t =
    sym s.comes
    ∙ ap outcome_of (sym (read_listing s.listing s.tokens s.is_listing) ∙ ap items_in (one_list s.spelled t.spelled)
    ∙ read_listing t.listing t.tokens t.is_listing)
    ∙ t.comes

pub one_case : (bytes : List ℕ) (c d : Case) → CaseOf bytes c → CaseOf bytes d → c ≡ d
one_case bytes c d (s, x, e) (t, y, f) =
    let both : says s ≡ says t = one_outcome x y in
    let same : s ≡ t = cc in
    e ∙ ap case_of same ∙ sym f

-- a text that is a listing has no fault but one of content
pub no_lexical : {bytes : List ℕ} {x : Outcome} {from k : ℕ} → ComesTo bytes x → header_of bytes ≡ body from → IsLexicalFault bytes from k → ⊥
no_lexical {bytes} {k = k} s e f =
    spells-no_fault s.spelled.spelled (subst (λ (i : ℕ). IsLexicalFault bytes i k) (one_body bytes e s.spelled.header) f)

pub no_token_fault : {bytes : List ℕ} {x : Outcome} (s : ComesTo bytes x) → (f : (k : ℕ) × (ts : List Token) × IsBody bytes ts × IsFaultAt IsListing ts k) → ⊥
no_token_fault s (k, ts, spelled, f) =
    no_place IsListing ts k (s.listing, subst (IsListingOf s.listing) (one_list s.spelled spelled) s.is_listing) f

pub no_fault : (bytes : List ℕ) (c : Case) (f : X86Fault) → CaseOf bytes c → f ≢ Memory → IsX86Fault bytes f → ⊥
no_fault bytes c (Lexical place) (s, x, e) not (from, header, f) = no_lexical x header f
no_fault bytes c (Syntax place) (s, x, e) not (inl header) = no_body bytes x.spelled.header header
no_fault bytes c (Syntax place) (s, x, e) not (inr f) = no_token_fault x (f.k, f.tokens, f.spelled, f.fault_at)
no_fault bytes c (Content kind place) (s, x, e) not f =
    let both : says s ≡ faulty (found kind place.offset) = one_outcome x f in cc
no_fault bytes c Memory x not f = not refl
