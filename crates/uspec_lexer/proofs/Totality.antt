-- Each text spells tokens or has a lexical fault.
use Rattle.std.proofs.Common.{◌≡◌, ℕ, zero, suc, ◌+◌, ◌-◌, ◌<◌, ◌≤◌, ◌⊎◌, List, [], ◌∷◌, ◌++◌, length, get_or, Bool, true, false, refl, subst, arith, ⊎_elim, inl, inr}
use Rattle.std.{proofs.str.Laws.{order}, specs.{Prelude.{slice_range}, Char.{is_ascii_digit}}}
use Rattle.uspec_lexer.specs.{Token.{Token, name, number, text, symbol}, Bytes.{is_text_byte, is_line_byte, number_value}, Table.{Table}, Models.{models}}
use Rattle.uspec_lexer.specs.Piece.{Form, blank, comment, token, opening_at, IsRun, ClosesBlock, IsBlockComment, IsPiece, NoPiece}
use Rattle.uspec_lexer.specs.{Spells.{Piece, Joined, tokens_of, SpellsFrom, IsFaultFrom, Spells, IsLexicalFault}, declared.grammar.Opening.{Opening}}
use Rattle.uspec_lexer.specs.declared.grammar.Opening.TheVariants.{Blank, LineComment, BlockComment, Name, Number, Text, ShortSymbol, LongSymbol, Nothing}
use Rattle.uspec_lexer.proofs.{Pieces.{no_block, no_number, no_text, no_room, no_opening, piece-rises, piece-within, inside_text}, SpellsLaws.{joined-push}}

abbrev Decided : Type 0 → Type 0
Decided P = P ⊎ (¬ P)

both : {P Q : Type 0} → Decided P → Decided Q → Decided (P × Q)
both (inl p) (inl q) = inl (p, q)
both (inl p) (inr never) = inr (λ h. never h.1)
both (inr never) q = inr (λ h. never h.0)

is : (c n : ℕ) → Decided (c ≡ n)
is c n = ⊎_elim (λ lt. inr (λ e. omega arith)) (λ le. ⊎_elim (λ lt. inr (λ e. omega arith)) (λ le'. inl (omega arith)) (order n c)) (order c n)

true_or_false : (b : Bool) → (b ≡ true) ⊎ (b ≡ false)
true_or_false true = inl refl
true_or_false false = inr refl

module _ (is_in : ℕ → Bool) (bytes : List ℕ) (a : ℕ) where
  -- a run of a class goes on from a to some end
  run_to : (left e : ℕ) → a ≤ e → e ≤ length bytes → length bytes ≤ e + left
      → ((i : ℕ) → a ≤ i → i < e → is_in (get_or bytes i 0) ≡ true) → (b : ℕ) × IsRun is_in bytes a b
  run_to zero e rises within enough inside =
      (e, record { rises = rises; within = within; inside = inside; longest = λ lt. absurd (omega arith) })
  run_to (suc left) e rises within enough inside =
      ⊎_elim
      (λ lt. ⊎_elim
      (λ here. run_to left (e + 1) (omega arith) (omega arith) (omega arith) (λ i from below. ⊎_elim
      (λ before. inside i from before)
      (λ at. let same : e ≡ i = omega arith in subst (λ k. is_in (get_or bytes k 0) ≡ true) same here)
      (order i e)))
      (λ never. (e, record { rises = rises; within = within; inside = inside; longest = λ lt'. never }))
      (true_or_false (is_in (get_or bytes e 0))))
      (λ end. (e, record { rises = rises; within = within; inside = inside; longest = λ lt. absurd (omega arith) }))
      (order e (length bytes))

  run_from : a ≤ length bytes → (b : ℕ) × IsRun is_in bytes a b
  run_from within = run_to (length bytes) a (omega arith) within (omega arith) (λ i from below. absurd (omega arith))

module _ (bytes : List ℕ) (a : ℕ) where
  -- a comment in brackets ends, or doesn't
  block_to : (left e : ℕ) → a + 2 ≤ e → length bytes ≤ e + left
      → ((i : ℕ) → a + 2 ≤ i → i < e → ¬ ClosesBlock bytes i) → Decided ((b : ℕ) × IsBlockComment bytes a b)
  block_to zero e some enough still_open =
      inr (λ (b, k). ⊎_elim
      (λ lt. still_open (b - 2) (omega (arith, k.room)) lt k.closes)
      (λ past. absurd (omega (arith, inside_text bytes (b - 2) (omega (arith, k.closes)))))
      (order (b - 2) e))
  block_to (suc left) e some enough still_open =
      ⊎_elim
      (λ here. inl (
        e + 2,
        record {
          room = omega arith;
          closes = (let same : e ≡ e + 2 - 2 = omega arith in subst (ClosesBlock bytes) same here);
          first = λ i from below. still_open i from (omega arith);
        },
      ))
      (λ never. block_to left (e + 1) (omega arith) (omega arith) (λ i from below. ⊎_elim
      (λ before. still_open i from before)
      (λ at. let same : i ≡ e = omega arith in λ closes. never (subst (ClosesBlock bytes) same closes))
      (order i e)))
      (both (is (get_or bytes e 0) 0x2A) (is (get_or bytes (e + 1) 0) 0x29))

SomePiece : Table → List ℕ → ℕ → Type 0
SomePiece t bytes a = ((form : Form) × (b : ℕ) × IsPiece t bytes form a b) ⊎ NoPiece t bytes a

module _ (t : Table) (bytes : List ℕ) (a : ℕ) (lt : a < length bytes) where
  block_or_none : opening_at t bytes a ≡ BlockComment → SomePiece t bytes a
  unfolding SomePiece
  block_or_none opens =
      ⊎_elim
      (λ (b, k). inl (comment, b, inr (opens, k)))
      (λ never. inr (no_block t bytes a opens (λ b k. never (b, k))))
      (block_to bytes a (length bytes) (a + 2) (omega arith) (omega arith) (λ i from below. absurd (omega arith)))

  number_or_none : opening_at t bytes a ≡ Number → SomePiece t bytes a
  unfolding SomePiece
  number_or_none opens =
      let run = run_from is_ascii_digit bytes (a + 1) (omega arith) in
      ⊎_elim
      (λ great. inr (no_number t bytes a run.0 opens run.1 great))
      (λ fits. inl (token (number (number_value (slice_range bytes a run.0))), run.0, (opens, record { digits = run.1; is = refl; fits = fits })))
      (order 18446744073709551615 (number_value (slice_range bytes a run.0)))

  text_or_none : opening_at t bytes a ≡ Text → SomePiece t bytes a
  unfolding SomePiece
  text_or_none opens =
      let run = run_from is_text_byte bytes (a + 1) (omega arith) in
      ⊎_elim
      (λ closes. inl (token text, run.0 + 1, (opens, record { quote = run.0; inside = run.1; closes = closes; ends = refl })))
      (λ never. inr (no_text t bytes a run.0 opens run.1 never))
      (is (get_or bytes run.0 0) 0x22)

  long_or_none : opening_at t bytes a ≡ LongSymbol → SomePiece t bytes a
  unfolding SomePiece
  long_or_none opens =
      ⊎_elim
      (λ more. inl (token symbol, a + 2, inr (opens, refl, omega arith)))
      (λ short. inr (no_room t bytes a opens short))
      (order (a + 1) (length bytes))

  piece_by : (o : Opening) → opening_at t bytes a ≡ o → SomePiece t bytes a
  unfolding SomePiece
  piece_by Blank opens = inl (blank, a + 1, (opens, refl, omega arith))
  piece_by LineComment opens = let run = run_from is_line_byte bytes (a + 1) (omega arith) in inl (comment, run.0, inl (opens, run.1))
  piece_by BlockComment opens = block_or_none opens
  piece_by Name opens = let run = run_from t.is_name_byte bytes (a + 1) (omega arith) in inl (token name, run.0, (opens, run.1))
  piece_by Number opens = number_or_none opens
  piece_by Text opens = text_or_none opens
  piece_by ShortSymbol opens = inl (token symbol, a + 1, inl (opens, refl, omega arith))
  piece_by LongSymbol opens = long_or_none opens
  piece_by Nothing opens = inr (no_opening t bytes a opens)

  -- at each place of a text a piece begins, or none does
  piece_or_none : SomePiece t bytes a
  piece_or_none = piece_by (opening_at t bytes a) refl

module _ (t : Table) (bytes : List ℕ) (from : ℕ) where
  IsSettled : Type 0
  IsSettled = ((ts : List Token) × SpellsFrom t bytes from ts) ⊎ ((k : ℕ) × IsFaultFrom t bytes from k)

  spelled_to_end : (a : ℕ) (ps : List Piece) → Joined t bytes from ps a → a ≡ length bytes → IsSettled
  unfolding IsSettled
  spelled_to_end a ps joined end =
      inl (tokens_of bytes from ps, record { pieces = ps; joined = subst (Joined t bytes from ps) end joined; tokens = refl })

  -- pieces up to a place go on to the end, or to a fault
  settled_from : (left a : ℕ) (ps : List Piece) → Joined t bytes from ps a → a ≤ length bytes → length bytes ≤ a + left → IsSettled
  unfolding IsSettled SomePiece
  settled_from zero a ps joined within enough = spelled_to_end a ps joined (omega arith)
  settled_from (suc left) a ps joined within enough =
      ⊎_elim
      (λ lt. ⊎_elim
      (λ (form, b, p). let piece : Piece = record { form = form; end = b } in
      settled_from left b (ps ++ piece ∷ []) (joined-push t bytes from a ps piece joined p) (piece-within t bytes form a b p)
      (omega (arith, piece-rises t bytes form a b p)))
      (λ none. inr (a, record { inside = lt; pieces = ps; joined = joined; none_begins = none }))
      (piece_or_none t bytes a lt))
      (λ past. spelled_to_end a ps joined (omega arith))
      (order a (length bytes))

  pub some_answer : from ≤ length bytes → ((ts : List Token) × SpellsFrom t bytes from ts) ⊎ ((k : ℕ) × IsFaultFrom t bytes from k)
  unfolding IsSettled
  some_answer within = settled_from (length bytes) from [] refl within (omega arith)

-- of models and tests
pub spells-or_fault : (bytes : List ℕ) → ((ts : List Token) × Spells bytes ts) ⊎ ((k : ℕ) × IsLexicalFault bytes k)
spells-or_fault bytes = some_answer models bytes 0 (omega arith)
