-- Bytes are a name of models and tests exactly where they are one piece, and that is a name.
use Rattle.std.proofs.Common.{◌≡◌, ◌↔◌, ℕ, zero, suc, ◌-◌, ◌<◌, ◌≤◌, Bool, true, false, ◌&&◌, ◌==◌, List, [], ◌∷◌, IsTrue, length, get_or, take, drop, if◌then◌else◌, refl, sym, ap, ◌∙◌, arith}
use Rattle.std.{proofs.lemmas.List.{take_all}, specs.{List.{list_all}, Char.{is_ascii_alphabetic, is_ascii_digit}}}
use Rattle.uspec_lexer.specs.{Token.{name}, Bytes.{is_blank, is_name_byte, is_name}, Models.{models, opens_line, is_short_symbol, is_long_symbol}}
use Rattle.uspec_lexer.specs.{Piece.{IsPiece, token, opening_at, opening_of}, declared.grammar.Opening.{Opening}}
use Rattle.uspec_lexer.specs.declared.grammar.Opening.TheVariants.{Blank, LineComment, BlockComment, Name, Number, Text, ShortSymbol, LongSymbol, Nothing}

both : (a b : Bool) → (a && b) ≡ true → (a ≡ true) × (b ≡ true)
both true b e = (refl, e)
both false b e = absurd (cc)

together : (a b : Bool) → a ≡ true → b ≡ true → (a && b) ≡ true
together true b e f = f
together false b e f = absurd (cc)

all_at : (bs : List ℕ) (i : ℕ) → list_all is_name_byte bs ≡ true → i < length bs → is_name_byte (get_or bs i 0) ≡ true
all_at [] i all within = absurd (omega arith)
all_at (b ∷ bs) zero all within = (both (is_name_byte b) (list_all is_name_byte bs) all).0
all_at (b ∷ bs) (suc i) all within = all_at bs i (both (is_name_byte b) (list_all is_name_byte bs) all).1 (omega arith)

all_of : (bs : List ℕ) → ((i : ℕ) → i < length bs → is_name_byte (get_or bs i 0) ≡ true) → list_all is_name_byte bs ≡ true
all_of [] each = refl
all_of (b ∷ bs) each =
    together (is_name_byte b) (list_all is_name_byte bs) (each 0 (omega arith)) (all_of bs (λ i within. each (suc i) (omega arith)))

-- behind the first byte
all_behind : (c : ℕ) (cs : List ℕ) (i : ℕ) → list_all is_name_byte cs ≡ true → 1 ≤ i → i < length (c ∷ cs) → is_name_byte (get_or (c ∷ cs) i 0) ≡ true
all_behind c cs zero all from below = absurd (omega arith)
all_behind c cs (suc i) all from below = all_at cs i all (omega arith)

not_blank : (c : ℕ) → is_ascii_alphabetic c ≡ true → is_blank c ≡ false
not_blank c h = grind arith

-- a letter begins a name, and nothing else does
letter_opens : (c d : ℕ) → is_ascii_alphabetic c ≡ true → opening_of models c d ≡ Name
letter_opens c d letter =
    let other : Opening = if is_ascii_digit c then Number else if (c == 0x28) && (d == 0x2A) then BlockComment else models.opening c d in
    ap (λ b. if b then Blank else if is_ascii_alphabetic c then Name else other) (not_blank c letter)
    ∙ ap (λ b. if b then Name else other) letter

opens_letter : (c d : ℕ) → opening_of models c d ≡ Name → is_ascii_alphabetic c ≡ true
opens_letter c d =
    by (is_blank c) (is_ascii_alphabetic c) (is_ascii_digit c) ((c == 0x28) && (d == 0x2A)) (c == 0x22) (opens_line c d)
    (is_long_symbol c d) (is_short_symbol c)
  where
    by : (b l n k q o g s : Bool)
        → (if b then Blank else if l then Name else if n then Number else if k then BlockComment
        else if q then Text else if o then LineComment else if g then LongSymbol else if s then ShortSymbol else Nothing) ≡ Name
        → l ≡ true
    by true l n k q o g s e = absurd (cc)
    by false true n k q o g s e = refl
    by false false true k q o g s e = absurd (cc)
    by false false false true q o g s e = absurd (cc)
    by false false false false true o g s e = absurd (cc)
    by false false false false false true g s e = absurd (cc)
    by false false false false false false true s e = absurd (cc)
    by false false false false false false false true e = absurd (cc)
    by false false false false false false false false e = absurd (cc)

piece_of : (bytes : List ℕ) → IsTrue (is_name bytes) → IsPiece models bytes (token name) 0 (length bytes)
unfolding is_name opening_at
piece_of [] h = absurd (cc)
piece_of (c ∷ cs) h =
    let (first, all) = both (is_ascii_alphabetic c) (list_all is_name_byte cs) h in (
      letter_opens c (get_or (c ∷ cs) 1 0) first,
      record {
        rises = omega arith;
        within = omega arith;
        inside = λ i from below. all_behind c cs i all from below;
        longest = λ past. absurd (omega arith);
      },
    )

name_of : (bytes : List ℕ) → IsPiece models bytes (token name) 0 (length bytes) → IsTrue (is_name bytes)
unfolding is_name opening_at
name_of [] p = absurd (omega (arith, p.1.rises))
name_of (c ∷ cs) p =
    together (is_ascii_alphabetic c) (list_all is_name_byte cs) (opens_letter c (get_or (c ∷ cs) 1 0) p.0)
    (all_of cs (λ i within. p.1.inside (suc i) (omega arith) (omega arith)))

pub name_is_piece : (bytes : List ℕ) → IsTrue (is_name bytes) ↔ IsPiece models bytes (token name) 0 (length bytes)
name_is_piece bytes = (piece_of bytes, name_of bytes)

-- what begins with no letter is no name
pub no_name : (bytes : List ℕ) → is_ascii_alphabetic (get_or bytes 0 0) ≡ false → is_name bytes ≡ false
unfolding is_name
no_name [] first = refl
no_name (c ∷ cs) first = ap (λ b. b && list_all is_name_byte cs) first

-- after a letter the other bytes decide
pub name_rest : (bytes : List ℕ) (rest : Bool) → 1 ≤ length bytes → is_ascii_alphabetic (get_or bytes 0 0) ≡ true
    → rest ≡ list_all is_name_byte (take (length bytes - 1) (drop 1 bytes)) → rest ≡ is_name bytes
unfolding is_name
name_rest [] rest some first e = absurd (omega arith)
name_rest (c ∷ cs) rest some first e =
    e ∙ ap (list_all is_name_byte) (take_all (length (c ∷ cs) - 1) cs (omega arith))
    ∙ ap (λ b. b && list_all is_name_byte cs) (sym first)
