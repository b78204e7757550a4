-- Which terminal of a grammar a token is.
use Rattle.std.specs.{Prelude.{ℕ, ◌==◌, List, [], ◌∷◌, if◌then◌else◌}, Str.{bytes_eq}}
use Rattle.uspec_lexer.specs.Token.{Token, Kind, name, number, text, symbol}
use Rattle.uspec_lexer.specs.Expected.{Expected, a_word, placed_word, a_number, placed_number, a_text, a_symbol, placed_symbol}

-- What a grammar chooses; `C` are its terminals.
pub record Vocabulary (C : Type 0) : Type 0 where
  pub word_terminal : List ℕ → C
  pub number_terminal : C
  pub text_terminal : C
  pub symbol_terminal : List ℕ → C

-- the terminal among these that is spelled so, or else another
abbrev pub find_terminal : {C : Type 0} → (C → List ℕ) → List ℕ → C → List C → C
find_terminal spelling w other [] = other
find_terminal spelling w other (c ∷ cs) = if bytes_eq w (spelling c) then c else find_terminal spelling w other cs

abbrev pub kind_terminal : {C : Type 0} → Vocabulary C → Kind → List ℕ → C
kind_terminal v name piece = v.word_terminal piece
kind_terminal v (number n) piece = v.number_terminal
kind_terminal v text piece = v.text_terminal
kind_terminal v symbol piece = v.symbol_terminal piece

abbrev pub token_terminal : {C : Type 0} → Vocabulary C → Token → C
token_terminal v t = kind_terminal v t.kind t.piece

-- the terminal of a token that is expected
abbrev pub expected_terminal : {C : Type 0} → Vocabulary C → Expected → C
expected_terminal v (a_word w) = v.word_terminal w
expected_terminal v (placed_word w at) = v.word_terminal w
expected_terminal v (a_number n) = v.number_terminal
expected_terminal v (placed_number n at) = v.number_terminal
expected_terminal v a_text = v.text_terminal
expected_terminal v (a_symbol s) = v.symbol_terminal s
expected_terminal v (placed_symbol s at) = v.symbol_terminal s

-- the kinds of tokens are numbered: names 0, numbers 1, texts 2, symbols 3
abbrev pub kind_of_sort : ℕ → Kind
kind_of_sort s = if s == 0 then name else if s == 1 then number 0 else if s == 2 then text else symbol

-- a token of this kind, spelled so
abbrev pub some_token : ℕ → List ℕ → Token
some_token s w = record { kind = kind_of_sort s; at = 0; piece = w }
