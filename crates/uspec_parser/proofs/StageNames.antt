-- Each stage of a model that tokens derive has a name: a letter, and then letters, digits, `_` and `'`.
use Rattle.std.proofs.Common.{◌≡◌, ℕ, zero, suc, Bool, true, false, not, ◌&&◌, cond, if◌then◌else◌, List, [], ◌∷◌, ◌++◌, Some, map, slice_get, refl, sym, ◌∙◌, ap, subst}
use Rattle.std.specs.{Prelude.{IsTrue, unwrap_or}, List.{list_all}, Str.{bytes_eq}}
use Rattle.pc_syntax.specs.{declared.model.StageItem.{StageItem}, Written.{WrittenModel}}
use Rattle.uspec_lexer.specs.{Token.{Token, Kind, name, number, text, symbol}, Bytes.{is_name as is_spelled_as_name}}
use Rattle.uspec_parser.specs.Terminals.{Lexeme, plain, placed, name_, quoted, number_, find_spelling, words, symbols, word_terminal, symbol_terminal, text_terminal, terminal_of_kind, terminal_of, content, is_name, lexeme_by, lexeme}
use Rattle.uspec_parser.specs.declared.terminal.Terminal.{Terminal, TheVariants.{Name, Number, Quoted, Text, Arrow}}
use Rattle.uspec_parser.specs.Syntax.{Item, stage, axiom_item, macro, spelled_item, spelled_model, stages_of, DerivesModel}

abbrev Each : {X : Type 0} → (X → Type 0) → List X → Type 0
Each P [] = Unit {0}
Each P (x ∷ xs) = P x × Each P xs

each_at : {X : Type 0} (P : X → Type 0) (xs : List X) (k : ℕ) (x : X) → Each P xs → slice_get xs k ≡ Some x → P x
each_at P [] k x h e = cc
each_at P (y ∷ xs) zero x h e = subst P (ap (λ o. unwrap_or o y) e) h.0
each_at P (y ∷ xs) (suc k) x h e = each_at P xs k x h.1 e

each_behind : {X : Type 0} (P : X → Type 0) (xs ys : List X) → Each P (xs ++ ys) → Each P ys
each_behind P [] ys h = h
each_behind P (x ∷ xs) ys h = each_behind P xs ys h.1

-- a quoted name is one
abbrev IsFine : Lexeme → Type 0
IsFine (plain t) = Unit {0}
IsFine (placed t at) = Unit {0}
IsFine (name_ w) = Unit {0}
IsFine (quoted w) = IsTrue (is_spelled_as_name w.name)
IsFine (number_ n at) = Unit {0}

abbrev is_quoted : Terminal → Bool
is_quoted Quoted = true
is_quoted _ = false

abbrev is_number : Terminal → Bool
is_number Number = true
is_number _ = false

both : (a b : Bool) → (a && b) ≡ true → (a ≡ true) × (b ≡ true)
both true b h = (refl, h)
both false b h = absurd (cc)

untrue : (b : Bool) → not b ≡ true → b ≡ false
untrue true h = absurd (cc)
untrue false h = refl

-- what is found in a table passes a test that all in it pass, and the other terminal
found : (p : Terminal → Bool) (w : List ℕ) (es : List (List ℕ × Terminal)) (other : Terminal)
    → list_all (λ (e : List ℕ × Terminal). p e.1) es ≡ true → p other ≡ true → p (find_spelling w es other) ≡ true
found p w [] other all last = last
found p w (e ∷ es) other all last =
    let parts = both (p e.1) (list_all (λ (d : List ℕ × Terminal). p d.1) es) all in
    by (bytes_eq w e.0) parts.0 (found p w es other parts.1 last)
  where
    by : (b : Bool) → p e.1 ≡ true → p (find_spelling w es other) ≡ true → p (if b then e.1 else find_spelling w es other) ≡ true
    by true here later = here
    by false here later = later

word_passes : (p : Terminal → Bool) → list_all (λ (e : List ℕ × Terminal). p e.1) words ≡ true → p Name ≡ true
    → (w : List ℕ) → p (word_terminal w) ≡ true
unfolding word_terminal
word_passes p all last w = found p w words Name all last

symbol_passes : (p : Terminal → Bool) → list_all (λ (e : List ℕ × Terminal). p e.1) symbols ≡ true → p Arrow ≡ true
    → (w : List ℕ) → p (symbol_terminal w) ≡ true
unfolding symbol_terminal
symbol_passes p all last w = found p w symbols Arrow all last

chosen : (a b : Bool) → is_quoted (cond (a && b) Quoted Text) ≡ true → a ≡ true
chosen true b h = refl
chosen false b h = cc

text_only : (p : List ℕ) → is_quoted (text_terminal p) ≡ true → IsTrue (is_spelled_as_name (content p))
unfolding text_terminal
text_only p h = chosen (is_spelled_as_name (content p)) (is_name (word_terminal (content p))) h

quoted_only : (k : Kind) (p : List ℕ) → is_quoted (terminal_of_kind k p) ≡ true → IsTrue (is_spelled_as_name (content p))
quoted_only name p h =
    let n = untrue (is_quoted (word_terminal p)) (word_passes (λ t. not (is_quoted t)) refl refl p) in cc
quoted_only (number n) p h = cc
quoted_only text p h = text_only p h
quoted_only symbol p h =
    let n = untrue (is_quoted (symbol_terminal p)) (symbol_passes (λ t. not (is_quoted t)) refl refl p) in cc

text_numberless : (p : List ℕ) → is_number (text_terminal p) ≡ false
unfolding text_terminal
text_numberless p = by (is_spelled_as_name (content p) && is_name (word_terminal (content p)))
  where
    by : (b : Bool) → is_number (cond b Quoted Text) ≡ false
    by true = refl
    by false = refl

-- only a number is the terminal of numbers
pub number_only : (k : Kind) (p : List ℕ) → terminal_of_kind k p ≡ Number → (n : ℕ) × (k ≡ number n)
number_only name p h =
    let n = untrue (is_number (word_terminal p)) (word_passes (λ t. not (is_number t)) refl refl p) in
    let yes = ap is_number h in absurd (cc)
number_only (number n) p h = (n, refl)
number_only text p h = let n = text_numberless p in let yes = ap is_number h in absurd (cc)
number_only symbol p h =
    let n = untrue (is_number (symbol_terminal p)) (symbol_passes (λ t. not (is_number t)) refl refl p) in
    let yes = ap is_number h in absurd (cc)

fine_lexeme : (t : Terminal) (x : Token) → (is_quoted t ≡ true → IsTrue (is_spelled_as_name (content x.piece))) → IsFine (lexeme_by t x)
fine_lexeme Quoted x h = h refl
fine_lexeme t x h = tt

fine_tokens : (ts : List Token) → Each IsFine (map lexeme ts)
fine_tokens [] = tt
fine_tokens (t ∷ ts) = (fine_lexeme (terminal_of t) t (quoted_only t.kind t.piece), fine_tokens ts)

fine_stages : (is : List Item) → Each IsFine (spelled_model is) → Each (λ s. IsTrue (is_spelled_as_name s.name.name)) (stages_of is)
fine_stages [] h = tt
fine_stages (stage s ∷ is) h = (h.1.1.0, fine_stages is h.1.1.1.1)
fine_stages (axiom_item at label f ∷ is) h = fine_stages is (each_behind IsFine (spelled_item (axiom_item at label f)) (spelled_model is) h)
fine_stages (macro n ps f ∷ is) h = fine_stages is (each_behind IsFine (spelled_item (macro n ps f)) (spelled_model is) h)

pub stage_is_named : (tokens : List Token) (m : WrittenModel) → DerivesModel tokens m
    → (k : ℕ) (s : StageItem) → slice_get m.stages k ≡ Some s → IsTrue (is_spelled_as_name s.name.name)
stage_is_named tokens m d k s at =
    let fine = fine_stages d.0 (subst (Each IsFine) d.1 (fine_tokens tokens)) in
    each_at (λ (x : StageItem). IsTrue (is_spelled_as_name x.name.name)) (stages_of d.0) k s fine
    (ap (λ (n : WrittenModel). slice_get n.stages k) (sym d.2) ∙ at)
