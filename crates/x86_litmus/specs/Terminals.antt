-- The terminals of a listing's grammar.
use Rattle.std.specs.Prelude.{ℕ, ◌==◌, Bool, List, [], ◌∷◌, codes}
use Rattle.uspec_lexer.specs.{Token.{Token}, Vocabulary.{Vocabulary, find_terminal, token_terminal}}
use Rattle.x86_litmus.specs.declared.terminal.Terminal.{Terminal}
use Rattle.x86_litmus.specs.declared.terminal.Terminal.TheVariants.{Mov, Mfence, Exists, Name, Number, OpenBrace, CloseBrace, Semicolon, Bar, OpenBracket, CloseBracket, Comma, Dollar, Colon, Equals, Open, Close, Tilde, And, Other}

-- how a word or a symbol of the grammar is spelled
abbrev pub spelling : Terminal → List ℕ
spelling Mov = codes "MOV"
spelling Mfence = codes "MFENCE"
spelling Exists = codes "exists"
spelling OpenBrace = codes "{"
spelling CloseBrace = codes "}"
spelling Semicolon = codes ";"
spelling Bar = codes "|"
spelling OpenBracket = codes "["
spelling CloseBracket = codes "]"
spelling Comma = codes ","
spelling Dollar = codes "$"
spelling Colon = codes ":"
spelling Equals = codes "="
spelling Open = codes "("
spelling Close = codes ")"
spelling Tilde = codes "~"
spelling And = codes "/\\"
spelling _ = []

abbrev pub word_terminals : List Terminal
word_terminals = Mov ∷ Mfence ∷ Exists ∷ []

abbrev pub symbols : List Terminal
symbols =
    OpenBrace ∷ CloseBrace ∷ Semicolon ∷ Bar ∷ OpenBracket ∷ CloseBracket ∷ Comma ∷ Dollar ∷ Colon ∷ Equals ∷ Open
    ∷ Close ∷ Tilde ∷ And ∷ []

unfoldable pub word_terminal : List ℕ → Terminal
word_terminal w = find_terminal spelling w Name word_terminals

unfoldable pub symbol_terminal : List ℕ → Terminal
symbol_terminal w = find_terminal spelling w Other symbols

-- which terminal a token is
abbrev pub vocabulary : Vocabulary Terminal
vocabulary = record {
  word_terminal = word_terminal;
  number_terminal = Number;
  text_terminal = Other;
  symbol_terminal = symbol_terminal;
}

abbrev pub terminal_of : Token → Terminal
terminal_of t = token_terminal vocabulary t

-- the kind of a terminal's tokens: a name 0, a number 1, a symbol 3
abbrev pub sort_of : Terminal → ℕ
sort_of Mov = 0
sort_of Mfence = 0
sort_of Exists = 0
sort_of Name = 0
sort_of Number = 1
sort_of _ = 3

-- whether the terminal is a name's
abbrev pub is_name : Terminal → Bool
is_name c = sort_of c == 0
