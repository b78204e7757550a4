-- The terminals of listings by the kinds of their tokens.
use Rattle.std.proofs.Common.{◌≡◌, ℕ, List, refl, arith}
use Rattle.uspec_lexer.{specs.Vocabulary.{find_terminal}, proofs.Words.{IsSorted}}
use Rattle.x86_litmus.specs.Terminals.{spelling, word_terminals, symbols, word_terminal, symbol_terminal, vocabulary, sort_of}
use Rattle.x86_litmus.specs.declared.terminal.Terminal.TheVariants.{Name, Other}

pub word_found : (w : List ℕ) → word_terminal w ≡ find_terminal spelling w Name word_terminals
unfolding word_terminal
word_found w = refl

pub symbol_found : (w : List ℕ) → symbol_terminal w ≡ find_terminal spelling w Other symbols
unfolding symbol_terminal
symbol_found w = refl

abbrev pub sorted : IsSorted vocabulary spelling sort_of
sorted = record {
  name_ = Name;
  other = Other;
  words = word_terminals;
  symbols = symbols;
  word_found = word_found;
  symbol_found = symbol_found;
  name_sorted = refl;
  words_sorted = refl;
  number_sorted = refl;
  text_sorted = omega arith;
  text_other = λ e. refl;
  other_sorted = refl;
  symbols_sorted = refl;
}
