-- A text spells one list of tokens at most, and none where a lexical fault stands.
use Rattle.std.proofs.{Common.{◌≡◌, ℕ, ◌≤◌, List, [], ◌∷◌, ◌++◌, length, sym, ap, ◌∙◌, refl, subst, arith, append_assoc}, lemmas.List.{append-nil}}
use Rattle.uspec_lexer.specs.{Token.{Token}, Table.{Table}, Piece.{Form, IsPiece, NoPiece}}
use Rattle.uspec_lexer.specs.Spells.{Piece, Joined, tokens_of_piece, tokens_of, SpellsBetween, SpellsFrom, IsFaultFrom}
use Rattle.uspec_lexer.proofs.Pieces.{piece-unique, piece-rises}

module _ (t : Table) (bytes : List ℕ) where
  -- one more piece after the others
  pub joined-push : (a b : ℕ) (ps : List Piece) (p : Piece) → Joined t bytes a ps b → IsPiece t bytes p.form b p.end
      → Joined t bytes a (ps ++ p ∷ []) p.end
  joined-push a b [] p e h = (subst (λ i. IsPiece t bytes p.form i p.end) (sym e) h, refl)
  joined-push a b (q ∷ qs) p j h = (j.0, joined-push q.end b qs p j.1 h)

  tokens_of-push : (a b : ℕ) (ps : List Piece) (p : Piece) → Joined t bytes a ps b
      → tokens_of bytes a (ps ++ p ∷ []) ≡ tokens_of bytes a ps ++ tokens_of_piece bytes p.form b p.end
  tokens_of-push a b [] p e =
      append-nil (tokens_of_piece bytes p.form a p.end) ∙ ap (λ i. tokens_of_piece bytes p.form i p.end) e
  tokens_of-push a b (q ∷ qs) p j =
      let first : List Token = tokens_of_piece bytes q.form a q.end in
      ap (λ ts. first ++ ts) (tokens_of-push q.end b qs p j.1)
      ∙ sym (append_assoc first (tokens_of bytes q.end qs) (tokens_of_piece bytes p.form b p.end))

  -- one more piece brings its token
  pub spells-push : (a b c : ℕ) (form : Form) (ts : List Token) → SpellsBetween t bytes a b ts → IsPiece t bytes form b c
      → SpellsBetween t bytes a c (ts ++ tokens_of_piece bytes form b c)
  spells-push a b c form ts s h =
      let p : Piece = record { form = form; end = c } in
      record {
        pieces = s.pieces ++ p ∷ [];
        joined = joined-push a b s.pieces p s.joined h;
        tokens = ap (λ us. us ++ tokens_of_piece bytes form b c) s.tokens ∙ sym (tokens_of-push a b s.pieces p s.joined);
      }

  joined-rises : (a z : ℕ) (ps : List Piece) → Joined t bytes a ps z → a ≤ z
  joined-rises a z [] e = omega arith
  joined-rises a z (p ∷ ps) j = omega (arith, piece-rises t bytes p.form a p.end j.0, joined-rises p.end z ps j.1)

  -- between two places stands one list of pieces at most
  joined-unique : (a z : ℕ) (ps qs : List Piece) → Joined t bytes a ps z → Joined t bytes a qs z → ps ≡ qs
  joined-unique a z [] [] j k = refl
  joined-unique a z [] (q ∷ qs) e k =
      absurd (omega (arith, e, piece-rises t bytes q.form a q.end k.0, joined-rises q.end z qs k.1))
  joined-unique a z (p ∷ ps) [] j e =
      absurd (omega (arith, e, piece-rises t bytes p.form a p.end j.0, joined-rises p.end z ps j.1))
  joined-unique a z (p ∷ ps) (q ∷ qs) j k =
      let same = piece-unique t bytes p.form q.form a p.end q.end j.0 k.0 in
      let first : p ≡ q = λ i. record { form = same.0 i; end = same.1 i } in
      let rest : ps ≡ qs = joined-unique p.end z ps qs j.1 (subst (λ e. Joined t bytes e qs z) (sym same.1) k.1) in
      λ i. first i ∷ rest i

  -- no pieces go past a place where none begins
  joined-stops : (a k z : ℕ) (ps qs : List Piece) → Joined t bytes a ps k → NoPiece t bytes k → Joined t bytes a qs z → z ≤ k
  joined-stops a k z [] [] e none j = omega arith
  joined-stops a k z [] (q ∷ qs) e none j =
      absurd (none q.form q.end (subst (λ i. IsPiece t bytes q.form i q.end) e j.0))
  joined-stops a k z (p ∷ ps) [] i none e = omega (arith, e, joined-rises a k (p ∷ ps) i)
  joined-stops a k z (p ∷ ps) (q ∷ qs) i none j =
      let same = piece-unique t bytes p.form q.form a p.end q.end i.0 j.0 in
      joined-stops p.end k z ps qs i.1 none (subst (λ e. Joined t bytes e qs z) (sym same.1) j.1)

module _ {t : Table} {bytes : List ℕ} {from : ℕ} where
  -- a text spells one list of tokens at most
  pub spells-unique : {ts us : List Token} → SpellsFrom t bytes from ts → SpellsFrom t bytes from us → ts ≡ us
  spells-unique s u =
      let pieces = joined-unique t bytes from (length bytes) s.pieces u.pieces s.joined u.joined in
      s.tokens ∙ ap (tokens_of bytes from) pieces ∙ sym u.tokens

  -- a text that spells tokens has no lexical fault
  pub spells-no_fault : {ts : List Token} {k : ℕ} → SpellsFrom t bytes from ts → IsFaultFrom t bytes from k → ⊥
  spells-no_fault {k = k} s f =
      omega (arith, f.inside, joined-stops t bytes from k (length bytes) f.pieces s.pieces f.joined f.none_begins s.joined)

  -- a text has one lexical fault at most
  pub lexical_fault-unique : {j k : ℕ} → IsFaultFrom t bytes from j → IsFaultFrom t bytes from k → j ≡ k
  lexical_fault-unique {j} {k} f g =
      let below = joined-stops t bytes from j k f.pieces g.pieces f.joined f.none_begins g.joined in
      let above = joined-stops t bytes from k j g.pieces f.pieces g.joined g.none_begins f.joined in
      omega (arith, below, above)
