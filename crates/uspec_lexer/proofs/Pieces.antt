-- At each place stands one piece at most.
use Rattle.std.proofs.Common.{◌≡◌, ◌≢◌, ℕ, ◌+◌, ◌-◌, ◌<◌, ◌≤◌, ◌⊎◌, Bool, true, false, List, length, get_or, sym, ap, ◌∙◌, refl, arith, ⊎_elim, inl, inr}
use Rattle.std.{proofs.{str.Laws.{order}, lemmas.List.{get_or_past}}, specs.{Prelude.{slice_range}, Char.{is_ascii_digit}}}
use Rattle.uspec_lexer.specs.{Token.{Kind, name, number, text, symbol}, Bytes.{is_text_byte, number_value}, Table.{Table}}
use Rattle.uspec_lexer.specs.Piece.{Form, blank, comment, token, opening_at, IsRun, IsBlockComment, IsText, IsPiece, NoPiece}
use Rattle.uspec_lexer.specs.declared.grammar.Opening.{Opening}
use Rattle.uspec_lexer.specs.declared.grammar.Opening.TheVariants.{Blank, LineComment, BlockComment, Name, Number, Text, ShortSymbol, LongSymbol, Nothing}

not_both : {b : Bool} → b ≡ true → b ≡ false → ⊥
not_both e f = let no : true ≡ false = sym e ∙ f in cc

-- the longest run from a place is one
pub run-unique : (is_in : ℕ → Bool) (bytes : List ℕ) (a b c : ℕ) → IsRun is_in bytes a b → IsRun is_in bytes a c → b ≡ c
run-unique is_in bytes a b c r s =
    ⊎_elim
    (λ less. absurd (not_both (s.inside b r.rises less) (r.longest (omega (arith, s.within)))))
    (λ rest. ⊎_elim
    (λ less. absurd (not_both (r.inside c s.rises less) (s.longest (omega (arith, r.within)))))
    (λ rest'. omega arith)
    (order c b))
    (order b c)

block-unique : (bytes : List ℕ) (a b c : ℕ) → IsBlockComment bytes a b → IsBlockComment bytes a c → b ≡ c
block-unique bytes a b c p q =
    ⊎_elim
    (λ less. absurd (q.first (b - 2) (omega (arith, p.room)) (omega (arith, p.room)) p.closes))
    (λ rest. ⊎_elim
    (λ less. absurd (p.first (c - 2) (omega (arith, q.room)) (omega (arith, q.room)) q.closes))
    (λ rest'. omega arith)
    (order c b))
    (order b c)

text-unique : (bytes : List ℕ) (a b c : ℕ) → IsText bytes a b → IsText bytes a c → b ≡ c
text-unique bytes a b c p q =
    omega (arith, p.ends, q.ends, run-unique is_text_byte bytes (a + 1) p.quote q.quote p.inside q.inside)

comment-unique : (t : Table) (bytes : List ℕ) (a b c : ℕ) → IsPiece t bytes comment a b → IsPiece t bytes comment a c → b ≡ c
comment-unique t bytes a b c (inl p) (inl q) = run-unique _ bytes (a + 1) b c p.1 q.1
comment-unique t bytes a b c (inl p) (inr q) = absurd (let no : LineComment ≡ BlockComment = sym p.0 ∙ q.0 in cc)
comment-unique t bytes a b c (inr p) (inl q) = absurd (let no : BlockComment ≡ LineComment = sym p.0 ∙ q.0 in cc)
comment-unique t bytes a b c (inr p) (inr q) = block-unique bytes a b c p.1 q.1

symbol-unique : (t : Table) (bytes : List ℕ) (a b c : ℕ) → IsPiece t bytes (token symbol) a b → IsPiece t bytes (token symbol) a c → b ≡ c
symbol-unique t bytes a b c (inl p) (inl q) = omega (arith, p.1, q.1)
symbol-unique t bytes a b c (inl p) (inr q) = absurd (let no : ShortSymbol ≡ LongSymbol = sym p.0 ∙ q.0 in cc)
symbol-unique t bytes a b c (inr p) (inl q) = absurd (let no : LongSymbol ≡ ShortSymbol = sym p.0 ∙ q.0 in cc)
symbol-unique t bytes a b c (inr p) (inr q) = omega (arith, p.1, q.1)

-- which of the six forms begins so
rank : Opening → ℕ
rank Nothing = 0
rank Blank = 1
rank LineComment = 2
rank BlockComment = 2
rank Name = 3
rank Number = 4
rank Text = 5
rank ShortSymbol = 6
rank LongSymbol = 6

kind_rank : Kind → ℕ
kind_rank name = 0
kind_rank (number value) = 1
kind_rank text = 2
kind_rank symbol = 3

form_rank : Form → ℕ
form_rank blank = 1
form_rank comment = 2
form_rank (token kind) = 3 + kind_rank kind

begins : (t : Table) (bytes : List ℕ) (form : Form) (a b : ℕ) → IsPiece t bytes form a b → rank (opening_at t bytes a) ≡ form_rank form
unfolding rank kind_rank form_rank
begins t bytes blank a b p = ap rank p.0
begins t bytes comment a b (inl p) = ap rank p.0
begins t bytes comment a b (inr p) = ap rank p.0
begins t bytes (token name) a b p = ap rank p.0
begins t bytes (token (number value)) a b p = ap rank p.0
begins t bytes (token text) a b p = ap rank p.0
begins t bytes (token symbol) a b (inl p) = ap rank p.0
begins t bytes (token symbol) a b (inr p) = ap rank p.0

-- where a piece of one form would have to stand and none does, no piece stands
pub no_block : (t : Table) (bytes : List ℕ) (a : ℕ) → opening_at t bytes a ≡ BlockComment → ((b : ℕ) → ¬ IsBlockComment bytes a b) → NoPiece t bytes a
unfolding rank kind_rank form_rank
no_block t bytes a opens none comment b (inl p) = let no : LineComment ≡ BlockComment = sym p.0 ∙ opens in cc
no_block t bytes a opens none comment b (inr p) = none b p.1
no_block t bytes a opens none form b p = absurd (omega (arith, begins t bytes form a b p, ap rank opens))

pub no_number : (t : Table) (bytes : List ℕ) (a e : ℕ) → opening_at t bytes a ≡ Number → IsRun is_ascii_digit bytes (a + 1) e
    → 18446744073709551615 < number_value (slice_range bytes a e) → NoPiece t bytes a
unfolding rank kind_rank form_rank
no_number t bytes a e opens run great (token (number value)) b p =
    let end : e ≡ b = run-unique is_ascii_digit bytes (a + 1) e b run p.1.digits in
    let same : number_value (slice_range bytes a e) ≡ number_value (slice_range bytes a b) = ap (λ k. number_value (slice_range bytes a k)) end in
    absurd (omega (arith, great, same, p.1.is, p.1.fits))
no_number t bytes a e opens run great form b p = absurd (omega (arith, begins t bytes form a b p, ap rank opens))

pub no_text : (t : Table) (bytes : List ℕ) (a e : ℕ) → opening_at t bytes a ≡ Text → IsRun is_text_byte bytes (a + 1) e
    → get_or bytes e 0 ≢ 0x22 → NoPiece t bytes a
unfolding rank kind_rank form_rank
no_text t bytes a e opens run open_still (token text) b p =
    let end : p.1.quote ≡ e = run-unique is_text_byte bytes (a + 1) p.1.quote e p.1.inside run in
    open_still (ap (λ k. get_or bytes k 0) (sym end) ∙ p.1.closes)
no_text t bytes a e opens run open_still form b p = absurd (omega (arith, begins t bytes form a b p, ap rank opens))

pub no_room : (t : Table) (bytes : List ℕ) (a : ℕ) → opening_at t bytes a ≡ LongSymbol → length bytes ≤ a + 1 → NoPiece t bytes a
unfolding rank kind_rank form_rank
no_room t bytes a opens short (token symbol) b (inl p) = let no : ShortSymbol ≡ LongSymbol = sym p.0 ∙ opens in cc
no_room t bytes a opens short (token symbol) b (inr p) = omega (arith, p.1, p.2)
no_room t bytes a opens short form b p = absurd (omega (arith, begins t bytes form a b p, ap rank opens))

pub no_opening : (t : Table) (bytes : List ℕ) (a : ℕ) → opening_at t bytes a ≡ Nothing → NoPiece t bytes a
unfolding rank kind_rank form_rank
no_opening t bytes a opens blank b p = absurd (omega (arith, begins t bytes blank a b p, ap rank opens))
no_opening t bytes a opens form b p = absurd (omega (arith, begins t bytes form a b p, ap rank opens))

-- at each place stands one piece at most
pub piece-unique : (t : Table) (bytes : List ℕ) (f g : Form) (a b c : ℕ) → IsPiece t bytes f a b → IsPiece t bytes g a c → (f ≡ g) × (b ≡ c)
unfolding kind_rank form_rank
piece-unique t bytes blank blank a b c p q = (refl, omega (arith, p.1, q.1))
piece-unique t bytes comment comment a b c p q = (refl, comment-unique t bytes a b c p q)
piece-unique t bytes (token name) (token name) a b c p q = (refl, run-unique _ bytes (a + 1) b c p.1 q.1)
piece-unique t bytes (token (number v)) (token (number w)) a b c p q =
    let end : b ≡ c = run-unique _ bytes (a + 1) b c p.1.digits q.1.digits in
    (ap (λ n. token (number n)) (p.1.is ∙ ap (λ e. number_value (slice_range bytes a e)) end ∙ sym q.1.is), end)
piece-unique t bytes (token text) (token text) a b c p q = (refl, text-unique bytes a b c p.1 q.1)
piece-unique t bytes (token symbol) (token symbol) a b c p q = (refl, symbol-unique t bytes a b c p q)
piece-unique t bytes f g a b c p q =
    absurd (omega (arith, begins t bytes f a b p, begins t bytes g a c q))

-- a byte that isn't 0 stands inside the text
pub inside_text : (bytes : List ℕ) (i : ℕ) → 0 < get_or bytes i 0 → i < length bytes
inside_text bytes i h = ⊎_elim (λ lt. lt) (λ past. absurd (omega (arith, get_or_past bytes i 0 past))) (order i (length bytes))

-- a piece has a byte
pub piece-rises : (t : Table) (bytes : List ℕ) (form : Form) (a b : ℕ) → IsPiece t bytes form a b → a < b
piece-rises t bytes blank a b p = omega (arith, p.1)
piece-rises t bytes comment a b (inl p) = omega (arith, p.1.rises)
piece-rises t bytes comment a b (inr p) = omega (arith, p.1.room)
piece-rises t bytes (token name) a b p = omega (arith, p.1.rises)
piece-rises t bytes (token (number value)) a b p = omega (arith, p.1.digits.rises)
piece-rises t bytes (token text) a b p = omega (arith, p.1.inside.rises, p.1.ends)
piece-rises t bytes (token symbol) a b (inl p) = omega (arith, p.1)
piece-rises t bytes (token symbol) a b (inr p) = omega (arith, p.1)

-- a piece lies inside the text
pub piece-within : (t : Table) (bytes : List ℕ) (form : Form) (a b : ℕ) → IsPiece t bytes form a b → b ≤ length bytes
piece-within t bytes blank a b p = p.2
piece-within t bytes comment a b (inl p) = p.1.within
piece-within t bytes comment a b (inr p) =
    omega (arith, p.1.room, inside_text bytes (b - 2 + 1) (omega (arith, p.1.closes.1)))
piece-within t bytes (token name) a b p = p.1.within
piece-within t bytes (token (number value)) a b p = p.1.digits.within
piece-within t bytes (token text) a b p = omega (arith, p.1.ends, inside_text bytes p.1.quote (omega (arith, p.1.closes)))
piece-within t bytes (token symbol) a b (inl p) = p.2
piece-within t bytes (token symbol) a b (inr p) = p.2
