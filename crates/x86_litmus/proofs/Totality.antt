-- Each text has a case or a first fault that is no want of memory.
use Rattle.std.proofs.Common.{◌≡◌, ◌≢◌, ℕ, ◌+◌, ◌≤◌, Bool, true, false, ◌⊎◌, ⊎_elim, inl, inr, List, [], ◌∷◌, length, if◌then◌else◌, refl, arith}
use Rattle.std.specs.List.{onto_first}
use Rattle.pc_common.specs.Case.{Case}
use Rattle.uspec_lexer.{specs.Token.{Token, token_place}, proofs.Totality.{some_answer}}
use Rattle.x86_litmus.specs.Header.{Header, body, fault, is_line_end, lines, indent, opens_body, has_no_meaning, is_title, header_behind, header_of_lines, header_of}
use Rattle.x86_litmus.specs.{Tokens.{listings}, Listing.{Listing}, Syntax.{IsListingOf}, Items.{items_of}, Faults.{Outcome, faulty, says, outcome_of}}
use Rattle.x86_litmus.specs.{Cases.{case_of}, Answer.{IsBody, ComesTo, CaseOf, IsX86Fault}, declared.fault.X86Fault.{X86Fault}}
use Rattle.x86_litmus.{specs.declared.fault.X86Fault.TheVariants.{Lexical, Syntax, Content, Memory}, proofs.SyntaxFaults.{listing_or_fault}}

-- the bytes of lines, each with an LF
total : List (List ℕ) → ℕ
total [] = 0
total (l ∷ ls) = length l + 1 + total ls

lines-total : (xs : List ℕ) → total (lines xs) ≡ length xs + 1
unfolding total
lines-total [] = refl
lines-total (x ∷ xs) = by (is_line_end x) (lines xs) (lines-total xs)
  where
    by : (b : Bool) (ls : List (List ℕ)) → total ls ≡ length xs + 1 → total (if b then [] ∷ ls else onto_first x ls) ≡ length (x ∷ xs) + 1
    by true ls e = omega (arith, e)
    by false [] e = absurd (omega (arith, e))
    by false (l ∷ ls) e = omega (arith, e)

-- a body begins within the text
behind_within : (end at k : ℕ) (ls : List (List ℕ)) → at + total ls ≡ end + 1 → header_behind end at ls ≡ body k → k ≤ end
unfolding total
behind_within end at k [] e is = absurd (cc)
behind_within end at k (l ∷ ls) e is =
    by (λ h. behind_within end (at + length l + 1) k ls (omega (arith, e)) h) (opens_body l) (has_no_meaning l) is
  where
    by : (header_behind end (at + length l + 1) ls ≡ body k → k ≤ end) → (b c : Bool)
        → (if b then body at else if c then header_behind end (at + length l + 1) ls else fault (at + indent l)) ≡ body k → k ≤ end
    by later true c h = let same : at ≡ k = cc in omega (arith, e, same)
    by later false true h = later h
    by later false false h = absurd (cc)

body_within : (bytes : List ℕ) (k : ℕ) → header_of bytes ≡ body k → k ≤ length bytes
unfolding total
body_within bytes k is = by (lines bytes) (lines-total bytes) is
  where
    titled : (title : List ℕ) (others : List (List ℕ)) → total (title ∷ others) ≡ length bytes + 1 → (b : Bool)
        → (if b then header_behind (length bytes) (length title + 1) others else fault 0) ≡ body k → k ≤ length bytes
    titled title others e true h = behind_within (length bytes) (length title + 1) k others (omega (arith, e)) h
    titled title others e false h = absurd (cc)

    by : (ls : List (List ℕ)) → total ls ≡ length bytes + 1 → header_of_lines (length bytes) ls ≡ body k → k ≤ length bytes
    by [] e h = absurd (cc)
    by (title ∷ others) e h = titled title others e (is_title title) h

abbrev IsSettled : List ℕ → Type 0
IsSettled bytes = ((c : Case) × CaseOf bytes c) ⊎ ((f : X86Fault) × (f ≢ Memory) × IsX86Fault bytes f)

-- a listing comes to something
outcome_settled : (bytes : List ℕ) (o : Outcome) → ComesTo bytes o → IsSettled bytes
outcome_settled bytes (says s) c = inl (case_of s, (s, c, refl))
outcome_settled bytes (faulty f) c = inr (Content f.kind (record { offset = f.at }), (λ e. cc), c)

listing_settled : (bytes : List ℕ) (ts : List Token) → IsBody bytes ts → (l : Listing) → IsListingOf l ts → IsSettled bytes
listing_settled bytes ts spelled l is =
    outcome_settled bytes (outcome_of (items_of l))
    (record { tokens = ts; spelled = spelled; listing = l; is_listing = is; comes = refl })

-- tokens that the bytes spell
tokens_settled : (bytes : List ℕ) (ts : List Token) → IsBody bytes ts → IsSettled bytes
tokens_settled bytes ts spelled =
    ⊎_elim
    (λ (l, is). listing_settled bytes ts spelled l is)
    (λ (k, found_at). inr (
      Syntax (record { offset = token_place bytes ts k }),
      (λ e. cc),
      inr (record { tokens = ts; spelled = spelled; k = k; fault_at = found_at; at = refl }),
    ))
    (listing_or_fault ts)

body_settled : (bytes : List ℕ) (from : ℕ) → header_of bytes ≡ body from → IsSettled bytes
body_settled bytes from header =
    ⊎_elim
    (λ (ts, spelled). tokens_settled bytes ts (record { from = from; header = header; spelled = spelled }))
    (λ (k, found_at). inr (Lexical (record { offset = k }), (λ e. cc), (from, header, found_at)))
    (some_answer listings bytes from (body_within bytes from header))

pub case_or_fault : (bytes : List ℕ) → ((c : Case) × CaseOf bytes c) ⊎ ((f : X86Fault) × (f ≢ Memory) × IsX86Fault bytes f)
case_or_fault bytes = by (header_of bytes) refl
  where
    by : (h : Header) → header_of bytes ≡ h → IsSettled bytes
    by (body from) e = body_settled bytes from e
    by (fault at) e = inr (Syntax (record { offset = at }), (λ f. cc), inl e)
