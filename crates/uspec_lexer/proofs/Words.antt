-- What a token is, by its terminal.
use Rattle.std.proofs.Common.{◌≡◌, ℕ, Bool, true, false, ◌&&◌, ◌==◌, ◌<◌, List, [], ◌∷◌, if◌then◌else◌, map, refl, sym, ap, subst, ◌∙◌, ◌⊎◌, inl, inr, arith}
use Rattle.std.{proofs.lemmas.{Bool.{eqb-true}, Slice.Eq.{bytes_eq-Decides}}, specs.{List.{list_all}, Str.{bytes_eq}}}
use Rattle.uspec_lexer.specs.Token.{Token, Kind, name, number, text, symbol}
use Rattle.uspec_lexer.specs.Expected.{Expected, a_word, placed_word, a_number, placed_number, a_text, a_symbol, placed_symbol, Is, Spell}
use Rattle.uspec_lexer.specs.Vocabulary.{Vocabulary, find_terminal, kind_terminal, token_terminal, expected_terminal}

-- The terminals are those of names, 0, of numbers, 1, of texts, 2, and of symbols, 3; texts may be symbols that the
-- grammar has not.
pub record IsSorted {C : Type 0} (v : Vocabulary C) (spelling : C → List ℕ) (sort_of : C → ℕ) : Type 0 where
  -- the terminals of names that are no words, and of symbols that the grammar has not
  pub name_ : C
  pub other : C
  pub words : List C
  pub symbols : List C
  pub word_found : (w : List ℕ) → v.word_terminal w ≡ find_terminal spelling w name_ words
  pub symbol_found : (w : List ℕ) → v.symbol_terminal w ≡ find_terminal spelling w other symbols
  pub name_sorted : sort_of name_ ≡ 0
  pub words_sorted : list_all (λ c. sort_of c == 0) words ≡ true
  pub number_sorted : sort_of v.number_terminal ≡ 1
  pub text_sorted : 1 < sort_of v.text_terminal
  pub text_other : sort_of v.text_terminal ≡ 3 → v.text_terminal ≡ other
  pub other_sorted : sort_of other ≡ 3
  pub symbols_sorted : list_all (λ c. sort_of c == 3) symbols ≡ true

found : {C : Type 0} (spelling : C → List ℕ) (w : List ℕ) (rest : C) (cs : List C) (d : C) → find_terminal spelling w rest cs ≡ d
    → (d ≡ rest) ⊎ (w ≡ spelling d)
found spelling w rest [] d e = inl (sym e)
found {C} spelling w rest (c ∷ cs) d e = by (λ same. found spelling w rest cs d same) (bytes_eq w (spelling c)) refl e
  where
    by : (find_terminal spelling w rest cs ≡ d → (d ≡ rest) ⊎ (w ≡ spelling d)) → (b : Bool) → bytes_eq w (spelling c) ≡ b
        → (if b then c else find_terminal spelling w rest cs) ≡ d → (d ≡ rest) ⊎ (w ≡ spelling d)
    by later true h same = inr (subst (λ (x : C). w ≡ spelling x) same ((bytes_eq-Decides w (spelling c)).0 h))
    by later false h same = later same

both : (a b : Bool) → (a && b) ≡ true → (a ≡ true) × (b ≡ true)
both true b e = (refl, e)
both false b e = absurd (cc)

-- what is found among terminals of a sort is of that sort
found_sort : {C : Type 0} (spelling : C → List ℕ) (sort_of : C → ℕ) (s : ℕ) (w : List ℕ) (rest : C) (cs : List C)
    → sort_of rest ≡ s → list_all (λ c. sort_of c == s) cs ≡ true → sort_of (find_terminal spelling w rest cs) ≡ s
found_sort spelling sort_of s w rest [] e all = e
found_sort spelling sort_of s w rest (c ∷ cs) e all =
    let parts = both (sort_of c == s) (list_all (λ d. sort_of d == s) cs) all in
    by (eqb-true (sort_of c) s parts.0) (found_sort spelling sort_of s w rest cs e parts.1) (bytes_eq w (spelling c))
  where
    by : sort_of c ≡ s → sort_of (find_terminal spelling w rest cs) ≡ s → (b : Bool)
        → sort_of (if b then c else find_terminal spelling w rest cs) ≡ s
    by here later true = here
    by here later false = later

module _ {C : Type 0} {v : Vocabulary C} {spelling : C → List ℕ} {sort_of : C → ℕ} (sorted : IsSorted v spelling sort_of) where
  word_sort : (w : List ℕ) → sort_of (v.word_terminal w) ≡ 0
  word_sort w =
      ap sort_of (sorted.word_found w)
      ∙ found_sort spelling sort_of 0 w sorted.name_ sorted.words sorted.name_sorted sorted.words_sorted

  symbol_sort : (w : List ℕ) → sort_of (v.symbol_terminal w) ≡ 3
  symbol_sort w =
      ap sort_of (sorted.symbol_found w)
      ∙ found_sort spelling sort_of 3 w sorted.other sorted.symbols sorted.other_sorted sorted.symbols_sorted

  -- any word is a name
  pub word_is_name : (w : List ℕ) → (sort_of (v.word_terminal w) == 0) ≡ true
  word_is_name w = ap (λ (s : ℕ). s == 0) (word_sort w)

  name-of_kind : (k : Kind) (piece : List ℕ) → sort_of (kind_terminal v k piece) ≡ 0 → k ≡ name
  name-of_kind name piece s = refl
  name-of_kind (number n) piece s = absurd (omega (arith, sorted.number_sorted))
  name-of_kind text piece s = absurd (omega (arith, sorted.text_sorted))
  name-of_kind symbol piece s = absurd (omega (arith, symbol_sort piece))

  number-of_kind : (k : Kind) (piece : List ℕ) → sort_of (kind_terminal v k piece) ≡ 1 → (n : ℕ) × (k ≡ number n)
  number-of_kind name piece s = absurd (omega (arith, word_sort piece))
  number-of_kind (number n) piece s = (n, refl)
  number-of_kind text piece s = absurd (omega (arith, sorted.text_sorted))
  number-of_kind symbol piece s = absurd (omega (arith, symbol_sort piece))

  text-of_kind : (k : Kind) (piece : List ℕ) → sort_of (kind_terminal v k piece) ≡ 2 → k ≡ text
  text-of_kind name piece s = absurd (omega (arith, word_sort piece))
  text-of_kind (number n) piece s = absurd (omega (arith, sorted.number_sorted))
  text-of_kind text piece s = refl
  text-of_kind symbol piece s = absurd (omega (arith, symbol_sort piece))

  word-of_kind : (k : Kind) (piece : List ℕ) (c : C) → sort_of c ≡ 0 → (c ≡ sorted.name_ → ⊥) → kind_terminal v k piece ≡ c
      → (k ≡ name) × (piece ≡ spelling c)
  word-of_kind name piece c s own e =
      (refl, elim (found spelling piece sorted.name_ sorted.words c (sym (sorted.word_found piece) ∙ e)) [ inl h ↦ absurd (own h) | inr h ↦ h ])
  word-of_kind (number n) piece c s own e = absurd (let h = ap sort_of e in omega (arith, sorted.number_sorted))
  word-of_kind text piece c s own e = absurd (let h = ap sort_of e in omega (arith, sorted.text_sorted))
  word-of_kind symbol piece c s own e = absurd (let h = ap sort_of e in omega (arith, symbol_sort piece))

  symbol-of_kind : (k : Kind) (piece : List ℕ) (c : C) → sort_of c ≡ 3 → (c ≡ sorted.other → ⊥) → kind_terminal v k piece ≡ c
      → (k ≡ symbol) × (piece ≡ spelling c)
  symbol-of_kind name piece c s own e = absurd (let h = ap sort_of e in omega (arith, word_sort piece))
  symbol-of_kind (number n) piece c s own e = absurd (let h = ap sort_of e in omega (arith, sorted.number_sorted))
  symbol-of_kind text piece c s own e = absurd (own (sym e ∙ sorted.text_other (ap sort_of e ∙ s)))
  symbol-of_kind symbol piece c s own e =
      (refl, elim (found spelling piece sorted.other sorted.symbols c (sym (sorted.symbol_found piece) ∙ e)) [ inl h ↦ absurd (own h) | inr h ↦ h ])

  -- what a token of a terminal is
  pub is_word : (t : Token) (c : C) → sort_of c ≡ 0 → (c ≡ sorted.name_ → ⊥) → token_terminal v t ≡ c → Is (a_word (spelling c)) t
  is_word t c s own e = word-of_kind t.kind t.piece c s own e

  pub is_placed_word : (t : Token) (c : C) → sort_of c ≡ 0 → (c ≡ sorted.name_ → ⊥) → token_terminal v t ≡ c
      → Is (placed_word (spelling c) t.at) t
  is_placed_word t c s own e = let w = word-of_kind t.kind t.piece c s own e in (w.0, w.1, refl)

  pub is_symbol : (t : Token) (c : C) → sort_of c ≡ 3 → (c ≡ sorted.other → ⊥) → token_terminal v t ≡ c → Is (a_symbol (spelling c)) t
  is_symbol t c s own e = symbol-of_kind t.kind t.piece c s own e

  pub is_placed_symbol : (t : Token) (c : C) → sort_of c ≡ 3 → (c ≡ sorted.other → ⊥) → token_terminal v t ≡ c
      → Is (placed_symbol (spelling c) t.at) t
  is_placed_symbol t c s own e = let w = symbol-of_kind t.kind t.piece c s own e in (w.0, w.1, refl)

  pub is_number : (t : Token) → token_terminal v t ≡ v.number_terminal → (n : ℕ) × Is (a_number n) t
  is_number t e = number-of_kind t.kind t.piece (ap sort_of e ∙ sorted.number_sorted)

  pub is_text : (t : Token) (c : C) → sort_of c ≡ 2 → token_terminal v t ≡ c → Is a_text t
  is_text t c s e = text-of_kind t.kind t.piece (ap sort_of e ∙ s)

  pub is_named : (t : Token) (c : C) → (sort_of c == 0) ≡ true → token_terminal v t ≡ c → t.kind ≡ name
  is_named t c h e = name-of_kind t.kind t.piece (ap sort_of e ∙ eqb-true (sort_of c) 0 h)

-- tokens that are what is expected have its terminals
module _ {C : Type 0} (v : Vocabulary C) where
  pub terminal-of_token : (e : Expected) (t : Token) → Is e t → token_terminal v t ≡ expected_terminal v e
  terminal-of_token (a_word w) t h = ap (λ (k : Kind). kind_terminal v k t.piece) h.0 ∙ ap v.word_terminal h.1
  terminal-of_token (placed_word w at) t h = ap (λ (k : Kind). kind_terminal v k t.piece) h.0 ∙ ap v.word_terminal h.1
  terminal-of_token (a_number n) t h = ap (λ (k : Kind). kind_terminal v k t.piece) h
  terminal-of_token (placed_number n at) t h = ap (λ (k : Kind). kind_terminal v k t.piece) h.0
  terminal-of_token a_text t h = ap (λ (k : Kind). kind_terminal v k t.piece) h
  terminal-of_token (a_symbol s) t h = ap (λ (k : Kind). kind_terminal v k t.piece) h.0 ∙ ap v.symbol_terminal h.1
  terminal-of_token (placed_symbol s at) t h = ap (λ (k : Kind). kind_terminal v k t.piece) h.0 ∙ ap v.symbol_terminal h.1

  pub terminals-of_tokens : (es : List Expected) (ts : List Token) → Spell es ts
      → map (token_terminal v) ts ≡ map (expected_terminal v) es
  terminals-of_tokens [] [] s = refl
  terminals-of_tokens [] (t ∷ ts) s = absurd s
  terminals-of_tokens (e ∷ es) [] s = absurd s
  terminals-of_tokens (e ∷ es) (t ∷ ts) s =
      let here = terminal-of_token e t s.0 in
      let others = terminals-of_tokens es ts s.1 in
      λ i. here i ∷ others i
