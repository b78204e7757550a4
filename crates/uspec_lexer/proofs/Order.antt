-- The tokens that a text spells: each is a piece of the text, none begins before the one ahead of it ends, and there
-- are no more of them than bytes.
use Rattle.std.proofs.Common.{◌≡◌, ℕ, zero, suc, ◌+◌, ◌-◌, ◌<◌, ◌≤◌, List, [], ◌∷◌, ◌++◌, length, drop, Some, sym, ap, subst, arith, length-append, length-drop}
use Rattle.std.{proofs.lemmas.List.{length-take-le}, specs.Prelude.{⊤, slice_get, slice_range}}
use Rattle.uspec_lexer.specs.{Token.{Token}, Table.{Table}, Piece.{Form, blank, comment, token, IsPiece}}
use Rattle.uspec_lexer.{specs.{Spells.{Piece, Joined, tokens_of_piece, tokens_of, SpellsFrom}, Laws.{IsTokenOf}}, proofs.Pieces.{piece-rises, piece-within}}

-- tokens of the text, the first at a or after it, each other after the end of the one before
abbrev pub AreTokensFrom : Table → List ℕ → ℕ → List Token → Type 0
AreTokensFrom t bytes a [] = ⊤
AreTokensFrom t bytes a (x ∷ xs) = (a ≤ x.at) × IsTokenOf t bytes x × AreTokensFrom t bytes (x.at + length x.piece) xs

length-slice_range : (bytes : List ℕ) (a b : ℕ) → a ≤ b → b ≤ length bytes → a + length (slice_range bytes a b) ≡ b
length-slice_range bytes a b le within =
    let fits : b - a ≤ length (drop a bytes) = omega (arith, length-drop a bytes) in
    omega (arith, length-take-le (b - a) (drop a bytes) fits)

told_few : (bytes : List ℕ) (form : Form) (a b : ℕ) → length (tokens_of_piece bytes form a b) ≤ 1
told_few bytes blank a b = omega arith
told_few bytes comment a b = omega arith
told_few bytes (token kind) a b = omega arith

module _ (t : Table) (bytes : List ℕ) where
  from_earlier : (a b : ℕ) (xs : List Token) → a ≤ b → AreTokensFrom t bytes b xs → AreTokensFrom t bytes a xs
  from_earlier a b [] le from = from
  from_earlier a b (x ∷ xs) le from = (omega (arith, le, from.0), from.1, from.2)

  told_first : (form : Form) (a b : ℕ) (xs : List Token) → IsPiece t bytes form a b → AreTokensFrom t bytes b xs
      → AreTokensFrom t bytes a (tokens_of_piece bytes form a b ++ xs)
  told_first blank a b xs p from = from_earlier a b xs (omega (arith, piece-rises t bytes blank a b p)) from
  told_first comment a b xs p from = from_earlier a b xs (omega (arith, piece-rises t bytes comment a b p)) from
  told_first (token kind) a b xs p from =
      let rises : a ≤ b = omega (arith, piece-rises t bytes (token kind) a b p) in
      let within = piece-within t bytes (token kind) a b p in
      let end : b ≡ a + length (slice_range bytes a b) = sym (length-slice_range bytes a b rises within) in (
        omega arith,
        record { stands = subst (IsPiece t bytes (token kind) a) end p; is = ap (slice_range bytes a) end },
        subst (λ e. AreTokensFrom t bytes e xs) end from,
      )

  tokens_of-from : (a z : ℕ) (ps : List Piece) → Joined t bytes a ps z → AreTokensFrom t bytes a (tokens_of bytes a ps)
  tokens_of-from a z [] j = tt
  tokens_of-from a z (p ∷ ps) j = told_first p.form a p.end (tokens_of bytes p.end ps) j.0 (tokens_of-from p.end z ps j.1)

  from-get : (a : ℕ) (xs : List Token) (k : ℕ) (x : Token) → AreTokensFrom t bytes a xs → slice_get xs k ≡ Some x
      → (a ≤ x.at) × IsTokenOf t bytes x
  from-get a [] k x from got = absurd (cc)
  from-get a (y ∷ ys) zero x from got =
      let same : y ≡ x = cc in
      (subst (λ u. a ≤ u.at) same from.0, subst (IsTokenOf t bytes) same from.1)
  from-get a (y ∷ ys) (suc k) x from got =
      let rest = from-get (y.at + length y.piece) ys k x from.2 got in
      (omega (arith, from.0, rest.0), rest.1)

  from-rises : (a : ℕ) (xs : List Token) (j k : ℕ) (x y : Token) → AreTokensFrom t bytes a xs → slice_get xs j ≡ Some x
      → slice_get xs k ≡ Some y → j < k → x.at + length x.piece ≤ y.at
  from-rises a [] j k x y from got got' lt = absurd (cc)
  from-rises a (z ∷ zs) j zero x y from got got' lt = absurd (omega arith)
  from-rises a (z ∷ zs) zero (suc k) x y from got got' lt =
      let same : z ≡ x = cc in
      subst (λ v. v.at + length v.piece ≤ y.at) same (from-get (z.at + length z.piece) zs k y from.2 got').0
  from-rises a (z ∷ zs) (suc j) (suc k) x y from got got' lt =
      from-rises (z.at + length z.piece) zs j k x y from.2 got got' (omega arith)

  tokens_of-few : (a z : ℕ) (ps : List Piece) → Joined t bytes a ps z → a + length (tokens_of bytes a ps) ≤ z
  tokens_of-few a z [] e = omega arith
  tokens_of-few a z (p ∷ ps) j =
      let parts = length-append (tokens_of_piece bytes p.form a p.end) (tokens_of bytes p.end ps) in
      let rises = piece-rises t bytes p.form a p.end j.0 in
      omega (arith, parts, told_few bytes p.form a p.end, rises, tokens_of-few p.end z ps j.1)

module _ {t : Table} {bytes : List ℕ} {from : ℕ} {xs : List Token} where
  spells-from : SpellsFrom t bytes from xs → AreTokensFrom t bytes from xs
  spells-from s =
      subst (AreTokensFrom t bytes from) (sym s.tokens) (tokens_of-from t bytes from (length bytes) s.pieces s.joined)

  -- each token is a piece of the text
  pub spells-get : (k : ℕ) {x : Token} → SpellsFrom t bytes from xs → slice_get xs k ≡ Some x → IsTokenOf t bytes x
  spells-get k {x} s got = (from-get t bytes from xs k x (spells-from s) got).1

  -- a token begins where every earlier one has ended
  pub spells-rises : (j k : ℕ) {x y : Token} → SpellsFrom t bytes from xs → slice_get xs j ≡ Some x → slice_get xs k ≡ Some y
      → j < k → x.at + length x.piece ≤ y.at
  spells-rises j k {x} {y} s got got' lt = from-rises t bytes from xs j k x y (spells-from s) got got' lt

  -- there are no more tokens than bytes
  pub spells-length : SpellsFrom t bytes from xs → length xs ≤ length bytes
  spells-length s = omega (arith, ap length s.tokens, tokens_of-few t bytes from (length bytes) s.pieces s.joined)

-- a token has a byte, and lies inside the text
pub token-within : {t : Table} {bytes : List ℕ} {x : Token} → IsTokenOf t bytes x
    → (0 < length x.piece) × (x.at + length x.piece ≤ length bytes)
token-within {t} {bytes} {x} is =
    let end : ℕ = x.at + length x.piece in
    let rises = piece-rises t bytes (token x.kind) x.at end is.stands in
    (omega (arith, rises), piece-within t bytes (token x.kind) x.at end is.stands)
