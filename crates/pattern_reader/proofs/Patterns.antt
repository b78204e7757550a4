-- Bytes say one pattern or have one first fault.
use Rattle.std.proofs.{Common.{◌≡◌, ◌≢◌, ℕ, ◌≤◌, ◌<◌, ◌⊎◌, inl, inr, ⊎_elim, List, length, refl, sym, ◌∙◌, ap, subst}, Math.Seq.{take-length}}
use Rattle.pc_common.specs.{Case.{Case}, declared.{fault.FaultKind.{FaultKind}, place.Place.{Place}}}
use Rattle.uspec_lexer.{proofs.{SpellsLaws.{spells-unique, spells-no_fault, lexical_fault-unique}, Totality.{spells-or_fault}}, specs.Fault.{IsLexicalRefusal}}
use Rattle.uspec_lexer.specs.declared.fault.LexFault.{LexFault, TheVariants.{Lexical as a_lexical_fault, Memory as no_room}}
use Rattle.litmus_reader.specs.{Answer.{CaseOf}, declared.fault.CaseFault.{CaseFault, TheVariants.{Lexical, Content, Memory}}, Rows.{fault_from}}
use Rattle.litmus_reader.proofs.{Exclusive.{one_case, no_fault}, OneFault.{one_fault}, Totality.{case_or_fault}}
use Rattle.pattern_reader.specs.{Opens.{Open, opens_in}, Closing.{closed_bytes}, Rows.{Pattern, rows_of}}
use Rattle.pattern_reader.specs.Answer.{pattern_with, ClosesTo, IsTooMany, IsClosedFault, in_test, too_many, PatternOf, IsPatternFault, lexical, closed}
use Rattle.pattern_reader.{specs.declared.pattern.TheConstants.{MAX_ROWS}, proofs.RowCounts.{compare, too_many_above, too_many_once, first_above}}

lexical_no_memory : {place : Place} → Lexical place ≡ Memory → ⊥
lexical_no_memory e = cc

content_no_memory : {kind : FaultKind} {place : Place} → Content kind place ≡ Memory → ⊥
content_no_memory e = cc

one_closing : (bytes : List ℕ) (opens : List Open) (p q : Pattern) → ClosesTo bytes opens p → ClosesTo bytes opens q → p ≡ q
one_closing bytes opens p q x y =
    x.is ∙ ap (λ c. pattern_with c opens) (one_case (closed_bytes bytes opens) x.case y.case x.closed y.closed) ∙ sym y.is

pub one_pattern_of : (bytes : List ℕ) (p q : Pattern) → PatternOf bytes p → PatternOf bytes q → p ≡ q
one_pattern_of bytes p q x y =
    let same = spells-unique x.spelled y.spelled in
    one_closing bytes (opens_in y.tokens) p q (subst (λ ts. ClosesTo bytes (opens_in ts) p) same x.closes) y.closes

no_closed_fault : (bytes : List ℕ) (opens : List Open) (p : Pattern) (f : CaseFault) → ClosesTo bytes opens p → IsClosedFault bytes opens f → ⊥
no_closed_fault bytes opens p f x (in_test y) = no_fault (closed_bytes bytes opens) x.case f x.closed y.0 y.1
no_closed_fault bytes opens p f x (too_many {c} said many) =
    let same = one_case (closed_bytes bytes opens) c x.case said x.closed in
    let few : rows_of (pattern_with x.case opens) ≤ MAX_ROWS = subst (λ q. rows_of q ≤ MAX_ROWS) x.is x.few in
    too_many_above x.case opens f (subst (λ d. IsTooMany d opens f) same many) few

pub no_fault_beside : (bytes : List ℕ) (p : Pattern) (f : CaseFault) → PatternOf bytes p → IsPatternFault bytes f → ⊥
no_fault_beside bytes p _ x (lexical is) = spells-no_fault x.spelled is
no_fault_beside bytes p f x (closed {tokens} spelled is) =
    let same = spells-unique spelled x.spelled in
    no_closed_fault bytes (opens_in x.tokens) p f x.closes (subst (λ ts. IsClosedFault bytes (opens_in ts) f) same is)

one_closed_fault : (bytes : List ℕ) (opens : List Open) (e f : CaseFault) → IsClosedFault bytes opens e → IsClosedFault bytes opens f → e ≡ f
one_closed_fault bytes opens e f (in_test x) (in_test y) = one_fault (closed_bytes bytes opens) e f x.0 y.0 x.1 y.1
one_closed_fault bytes opens e f (in_test x) (too_many {c} said many) = absurd (no_fault (closed_bytes bytes opens) c e said x.0 x.1)
one_closed_fault bytes opens e f (too_many {c} said many) (in_test y) = absurd (no_fault (closed_bytes bytes opens) c f said y.0 y.1)
one_closed_fault bytes opens e f (too_many {c} said many) (too_many {c = d} told more) =
    let same = one_case (closed_bytes bytes opens) c d said told in
    too_many_once d opens e f (subst (λ x. IsTooMany x opens e) same many) more

pub one_fault_of : (bytes : List ℕ) (e f : CaseFault) → IsPatternFault bytes e → IsPatternFault bytes f → e ≡ f
one_fault_of bytes _ _ (lexical {place = p} x) (lexical {place = q} y) = ap (λ n. Lexical (record { offset = n })) (lexical_fault-unique x y)
one_fault_of bytes _ f (lexical x) (closed spelled y) = absurd (spells-no_fault spelled x)
one_fault_of bytes e _ (closed spelled x) (lexical y) = absurd (spells-no_fault spelled y)
one_fault_of bytes e f (closed {tokens = ts} spelled x) (closed {tokens = us} told y) =
    let same = spells-unique spelled told in
    one_closed_fault bytes (opens_in us) e f (subst (λ vs. IsClosedFault bytes (opens_in vs) e) same x) y

of_rows : (bytes : List ℕ) (opens : List Open) (c : Case) → CaseOf (closed_bytes bytes opens) c
    → ((p : Pattern) × ClosesTo bytes opens p) ⊎ ((f : CaseFault) × IsClosedFault bytes opens f)
of_rows bytes opens c said = ⊎_elim
    (λ few. inl (pattern_with c opens, record { case = c; closed = said; is = refl; few = few }))
    (λ many.
    let (f, is) = first_above c (length opens) opens (subst (λ os. MAX_ROWS < rows_of (pattern_with c os)) (sym (take-length opens)) many) in
    inr (f, too_many said is))
    (compare (rows_of (pattern_with c opens)) MAX_ROWS)

of_opens : (bytes : List ℕ) (opens : List Open)
    → ((p : Pattern) × ClosesTo bytes opens p) ⊎ ((f : CaseFault) × IsClosedFault bytes opens f)
of_opens bytes opens = ⊎_elim (λ (c, said). of_rows bytes opens c said) (λ (f, some, is). inr (f, in_test (some, is)))
    (case_or_fault (closed_bytes bytes opens))

pub pattern_or_fault_of : (bytes : List ℕ) → ((p : Pattern) × PatternOf bytes p) ⊎ ((f : CaseFault) × IsPatternFault bytes f)
pattern_or_fault_of bytes = ⊎_elim
    (λ (ts, spelled). ⊎_elim
    (λ (p, closes). inl (p, record { tokens = ts; spelled = spelled; closes = closes }))
    (λ (f, is). inr (f, closed spelled is))
    (of_opens bytes (opens_in ts)))
    (λ (k, is). inr (Lexical (record { offset = k }), lexical is))
    (spells-or_fault bytes)

-- want of memory is no fault
pub no_memory_fault : (bytes : List ℕ) → IsPatternFault bytes Memory → ⊥
no_memory_fault bytes is = no_memory bytes Memory refl is
  where
    unlike_content : {c : Case} {opens : List Open} (f : CaseFault) → f ≡ Memory → IsTooMany c opens f → ⊥
    unlike_content f e many = content_no_memory (sym many.is ∙ e)

    no_memory : (bytes : List ℕ) (f : CaseFault) → f ≡ Memory → IsPatternFault bytes f → ⊥
    no_memory bytes _ e (lexical {place} is) = lexical_no_memory e
    no_memory bytes f e (closed spelled (in_test is)) = is.0 e
    no_memory bytes f e (closed spelled (too_many said many)) = unlike_content f e many

-- the fault of the tokens is that of the pattern
pub tokens_end : (bytes : List ℕ) (f : LexFault) → IsLexicalRefusal bytes f → fault_from f ≢ Memory → IsPatternFault bytes (fault_from f)
tokens_end bytes (a_lexical_fault place) is some = lexical is
tokens_end bytes no_room is some = absurd (some refl)
