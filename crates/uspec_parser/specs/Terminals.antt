-- The terminals of a model's grammar, and what the tree keeps of a token.
use Rattle.std.specs.{Prelude.{ℕ, ◌-◌, Bool, true, false, ◌&&◌, List, [], ◌∷◌, length, slice_range, codes, if◌then◌else◌}, Str.{bytes_eq}}
use Rattle.pc_common.specs.declared.place.Place.{Place}
use Rattle.pc_syntax.specs.declared.term.Word.{Word}
use Rattle.uspec_lexer.specs.{Token.{Token, Kind, name, number, text, symbol}, Bytes.{is_name as is_spelled_as_name}}
use Rattle.uspec_parser.specs.declared.terminal.Terminal.{Terminal}
use Rattle.uspec_parser.specs.declared.terminal.Terminal.TheVariants.{StageName, Axiom, DefineMacro, ExpandMacro, Forall, Exists, Microop, Core, OneEdge, EdgeList, OneNode, NodeList, Name, Number, Quoted, Text, Open, Close, OpenBracket, CloseBracket, Comma, Semicolon, Colon, Dot, Not, And, Or, Implies, Arrow}

-- the terminal beside this spelling in a table, or else another
abbrev pub find_spelling : List ℕ → List (List ℕ × Terminal) → Terminal → Terminal
find_spelling word [] other = other
find_spelling word (e ∷ es) other = if bytes_eq word e.0 then e.1 else find_spelling word es other

abbrev pub words : List (List ℕ × Terminal)
words =
    (codes "StageName", StageName) ∷ (codes "Axiom", Axiom) ∷ (codes "DefineMacro", DefineMacro)
    ∷ (codes "ExpandMacro", ExpandMacro) ∷ (codes "forall", Forall) ∷ (codes "exists", Exists)
    ∷ (codes "microop", Microop) ∷ (codes "microops", Microop) ∷ (codes "core", Core) ∷ (codes "cores", Core)
    ∷ (codes "AddEdge", OneEdge) ∷ (codes "EdgeExists", OneEdge) ∷ (codes "AddEdges", EdgeList)
    ∷ (codes "EdgesExist", EdgeList) ∷ (codes "NodeExists", OneNode) ∷ (codes "NodesExist", NodeList) ∷ []

abbrev pub symbols : List (List ℕ × Terminal)
symbols =
    (codes "(", Open) ∷ (codes ")", Close) ∷ (codes "[", OpenBracket) ∷ (codes "]", CloseBracket) ∷ (codes ",", Comma)
    ∷ (codes ";", Semicolon) ∷ (codes ":", Colon) ∷ (codes ".", Dot) ∷ (codes "~", Not) ∷ (codes "/\\", And)
    ∷ (codes "\\/", Or) ∷ (codes "=>", Implies) ∷ []

-- a word is its own terminal if it is reserved, else a name
unfoldable pub word_terminal : List ℕ → Terminal
word_terminal word = find_spelling word words Name

unfoldable pub symbol_terminal : List ℕ → Terminal
symbol_terminal piece = find_spelling piece symbols Arrow

-- what a text's quotes enclose
abbrev pub content : List ℕ → List ℕ
content piece = slice_range piece 1 (length piece - 1)

-- whether the terminal is a name that is not reserved
abbrev pub is_name : Terminal → Bool
is_name Name = true
is_name _ = false

-- a text is a quoted name where its content is one that is not reserved
unfoldable pub text_terminal : List ℕ → Terminal
text_terminal piece =
    if is_spelled_as_name (content piece) && is_name (word_terminal (content piece)) then Quoted else Text

abbrev pub terminal_of_kind : Kind → List ℕ → Terminal
terminal_of_kind name piece = word_terminal piece
terminal_of_kind (number n) piece = Number
terminal_of_kind text piece = text_terminal piece
terminal_of_kind symbol piece = symbol_terminal piece

abbrev pub terminal_of : Token → Terminal
terminal_of t = terminal_of_kind t.kind t.piece

-- A token as the tree sees it: its terminal, and what the tree keeps of it.
pub data Lexeme : Type 0 where
  -- nothing more
  plain : Terminal → Lexeme
  -- the place of a quantifier, of `ExpandMacro` or of `Axiom`
  placed : Terminal → Place → Lexeme
  -- a name that is not reserved
  name_ : Word → Lexeme
  -- a text whose content is such a name; the place is the text's
  quoted : Word → Lexeme
  number_ : ℕ → Place → Lexeme

abbrev pub terminal : Lexeme → Terminal
terminal (plain t) = t
terminal (placed t at) = t
terminal (name_ w) = Name
terminal (quoted w) = Quoted
terminal (number_ n at) = Number

abbrev pub start_of_token : Token → Place
start_of_token t = record { offset = t.at }

abbrev pub value : Kind → ℕ
value (number n) = n
value _ = 0

-- the lexeme of a token that is this terminal
abbrev pub lexeme_by : Terminal → Token → Lexeme
lexeme_by Name t = name_ (record { name = t.piece; at = start_of_token t })
lexeme_by Quoted t = quoted (record { name = content t.piece; at = start_of_token t })
lexeme_by Number t = number_ (value t.kind) (start_of_token t)
lexeme_by Forall t = placed Forall (start_of_token t)
lexeme_by Exists t = placed Exists (start_of_token t)
lexeme_by ExpandMacro t = placed ExpandMacro (start_of_token t)
lexeme_by Axiom t = placed Axiom (start_of_token t)
lexeme_by other t = plain other

abbrev pub lexeme : Token → Lexeme
lexeme t = lexeme_by (terminal_of t) t

-- of these terminals the tree keeps the place
abbrev pub is_placed : Terminal → Bool
is_placed Forall = true
is_placed Exists = true
is_placed ExpandMacro = true
is_placed Axiom = true
is_placed _ = false
