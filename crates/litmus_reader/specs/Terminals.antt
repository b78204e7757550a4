-- The terminals of a test's grammar.
use Rattle.std.specs.Prelude.{ℕ, ◌==◌, Bool, List, [], ◌∷◌, codes}
use Rattle.uspec_lexer.specs.{Token.{Token}, Vocabulary.{Vocabulary, find_terminal, token_terminal}}
use Rattle.litmus_reader.specs.declared.terminal.Terminal.{Terminal}
use Rattle.litmus_reader.specs.declared.terminal.Terminal.TheVariants.{Litmus, Litmus2, Microop, Relationship, Init, Final, Permitted, Forbidden, Read, Write, Fence, Va, Pa, Entry, Data, Maps, Name, Number, Text, Open, Close, Dot, Arrow, Other}

-- how a word or a symbol of the grammar is spelled
abbrev pub spelling : Terminal → List ℕ
spelling Litmus = codes "Litmus"
spelling Litmus2 = codes "Litmus2"
spelling Microop = codes "Microop"
spelling Relationship = codes "Relationship"
spelling Init = codes "Init"
spelling Final = codes "Final"
spelling Permitted = codes "Permitted"
spelling Forbidden = codes "Forbidden"
spelling Read = codes "Read"
spelling Write = codes "Write"
spelling Fence = codes "Fence"
spelling Va = codes "VA"
spelling Pa = codes "PA"
spelling Entry = codes "Entry"
spelling Data = codes "Data"
spelling Maps = codes "Maps"
spelling Open = codes "("
spelling Close = codes ")"
spelling Dot = codes "."
spelling Arrow = codes "->"
spelling _ = []

abbrev pub word_terminals : List Terminal
word_terminals =
    Litmus ∷ Litmus2 ∷ Microop ∷ Relationship ∷ Init ∷ Final ∷ Permitted ∷ Forbidden ∷ Read ∷ Write ∷ Fence
    ∷ Va ∷ Pa ∷ Entry ∷ Data ∷ Maps ∷ []

abbrev pub symbols : List Terminal
symbols = Open ∷ Close ∷ Dot ∷ Arrow ∷ []

unfoldable pub word_terminal : List ℕ → Terminal
word_terminal w = find_terminal spelling w Name word_terminals

unfoldable pub symbol_terminal : List ℕ → Terminal
symbol_terminal w = find_terminal spelling w Other symbols

-- which terminal a token is
abbrev pub vocabulary : Vocabulary Terminal
vocabulary = record {
  word_terminal = word_terminal;
  number_terminal = Number;
  text_terminal = Text;
  symbol_terminal = symbol_terminal;
}

abbrev pub terminal_of : Token → Terminal
terminal_of t = token_terminal vocabulary t

-- the kind of a terminal's tokens: a name 0, a number 1, a text 2, a symbol 3
abbrev pub sort_of : Terminal → ℕ
sort_of Number = 1
sort_of Text = 2
sort_of Open = 3
sort_of Close = 3
sort_of Dot = 3
sort_of Arrow = 3
sort_of Other = 3
sort_of _ = 0

-- whether the terminal is a name's
abbrev pub is_name : Terminal → Bool
is_name c = sort_of c == 0
