-- The grammar of models as a table: what stands after a token where a phrase begins with it.
use Rattle.std.specs.Prelude.{◌≡◌, ℕ, ◌+◌, Bool, true, false, List, [], ◌∷◌, Option, Some, None, refl}
use Rattle.ll_grammar.specs.{Rules.{Rules}, Predictable.{IsPredictable, HasTexts}}
use Rattle.ll_grammar.specs.{LawsOfTables.{AreListed, predictable_by, texts_by, is_predictable_part, is_ranked_part}, declared.grammar.Symbol.{Symbol}}
use Rattle.ll_grammar.specs.declared.grammar.Symbol.TheVariants.{Terminal as a_terminal, Nonterminal as a_nonterminal}
use Rattle.uspec_parser.specs.declared.terminal.Terminal.{Terminal}
use Rattle.uspec_parser.specs.declared.terminal.Terminal.TheVariants.{StageName, Axiom, DefineMacro, ExpandMacro, Forall, Exists, Microop, Core, OneEdge, EdgeList, OneNode, NodeList, Name, Number, Quoted, Text, Open, Close, OpenBracket, CloseBracket, Comma, Semicolon, Colon, Dot, Not, And, Or, Implies, Arrow}
use Rattle.uspec_parser.specs.declared.phrase.Phrase.{Phrase}
use Rattle.uspec_parser.specs.declared.phrase.Phrase.TheVariants.{Items, Parameters, Label, Operand, More, Arguments, Argument, Node, Location, Edge, Labels, SecondLabel, SortWord, Nodes, MoreNodes, Edges, MoreEdges}
use Rattle.uspec_parser.specs.Levels.{is_deep, level_of, level_after_implies, level_after_or, level_after_and}

-- An `Operand` has the level of its list and how many openers are open at its next token: more than the level says
-- where `~` stand before it. `More` is what follows an operand of the list.
abbrev pub production : Phrase → Terminal → Option (List (Symbol Terminal Phrase))
production Items StageName = Some (a_terminal Number ∷ a_terminal Quoted ∷ a_terminal Dot ∷ a_nonterminal Items ∷ [])
production Items Axiom = Some (a_nonterminal Label ∷ a_terminal Colon ∷ a_nonterminal (Operand (level_of 0) 0) ∷ a_terminal Dot ∷ a_nonterminal Items ∷ [])
production Items DefineMacro =
    Some (a_terminal Quoted ∷ a_nonterminal Parameters ∷ a_terminal Colon ∷ a_nonterminal (Operand (level_of 0) 0) ∷ a_terminal Dot ∷ a_nonterminal Items ∷ [])
production Parameters Quoted = Some (a_nonterminal Parameters ∷ [])
production Label Quoted = Some []
production Label Text = Some []
production (Operand l n) OneEdge = Some (a_nonterminal Edge ∷ a_nonterminal (More l) ∷ [])
production (Operand l n) EdgeList = Some (a_terminal OpenBracket ∷ a_nonterminal Edges ∷ a_nonterminal (More l) ∷ [])
production (Operand l n) OneNode = Some (a_nonterminal Node ∷ a_nonterminal (More l) ∷ [])
production (Operand l n) NodeList = Some (a_terminal OpenBracket ∷ a_nonterminal Nodes ∷ a_nonterminal (More l) ∷ [])
production (Operand l n) ExpandMacro = Some (a_terminal Name ∷ a_nonterminal Arguments ∷ a_nonterminal (More l) ∷ [])
production (Operand l n) Name = Some (a_nonterminal Arguments ∷ a_nonterminal (More l) ∷ [])
production (Operand l n) Open = Some (a_nonterminal (Operand (level_of (n + 1)) (n + 1)) ∷ a_terminal Close ∷ a_nonterminal (More l) ∷ [])
production (Operand l n) Not = Some (a_nonterminal (Operand l (n + 1)) ∷ [])
production (Operand l n) Forall =
    Some (a_nonterminal SortWord ∷ a_terminal Quoted ∷ a_terminal Comma ∷ a_nonterminal (Operand (level_of (n + 1)) (n + 1)) ∷ [])
production (Operand l n) Exists =
    Some (a_nonterminal SortWord ∷ a_terminal Quoted ∷ a_terminal Comma ∷ a_nonterminal (Operand (level_of (n + 1)) (n + 1)) ∷ [])
production (More l) And = Some (a_nonterminal (Operand (level_after_and l) (l.at_and + 1)) ∷ [])
production (More l) Or = Some (a_nonterminal (Operand (level_after_or l) (l.at_or + 1)) ∷ [])
production (More l) Implies = Some (a_nonterminal (Operand (level_after_implies l) (l.at_implies + 1)) ∷ [])
production Arguments Name = Some (a_nonterminal Arguments ∷ [])
production Arguments Number = Some (a_nonterminal Arguments ∷ [])
production Argument Name = Some []
production Argument Number = Some []
production Node Open = Some (a_terminal Name ∷ a_terminal Comma ∷ a_nonterminal Location ∷ a_terminal Close ∷ [])
production Location Name = Some []
production Location Open = Some (a_nonterminal Argument ∷ a_terminal Comma ∷ a_terminal Name ∷ a_terminal Close ∷ [])
production Edge Open = Some (a_nonterminal Node ∷ a_terminal Comma ∷ a_nonterminal Node ∷ a_nonterminal Labels ∷ a_terminal Close ∷ [])
production Labels Comma = Some (a_nonterminal Label ∷ a_nonterminal SecondLabel ∷ [])
production SecondLabel Comma = Some (a_nonterminal Label ∷ [])
production SortWord Microop = Some []
production SortWord Core = Some []
production Nodes CloseBracket = Some []
production Nodes Open = Some (a_terminal Name ∷ a_terminal Comma ∷ a_nonterminal Location ∷ a_terminal Close ∷ a_nonterminal MoreNodes ∷ [])
production MoreNodes CloseBracket = Some []
production MoreNodes Semicolon = Some (a_nonterminal Nodes ∷ [])
production Edges CloseBracket = Some []
production Edges Open = Some (a_nonterminal Node ∷ a_terminal Comma ∷ a_nonterminal Node ∷ a_nonterminal Labels
    ∷ a_terminal Close ∷ a_nonterminal MoreEdges ∷ [])
production MoreEdges CloseBracket = Some []
production MoreEdges Semicolon = Some (a_nonterminal Edges ∷ [])
production _ _ = None

abbrev pub is_nullable : Phrase → Bool
is_nullable Items = true
is_nullable Parameters = true
is_nullable (More l) = true
is_nullable Arguments = true
is_nullable Labels = true
is_nullable SecondLabel = true
is_nullable _ = false

abbrev pub deep : Phrase → Terminal → Bool
deep (Operand l n) Open = is_deep n
deep (Operand l n) Not = is_deep n
deep (Operand l n) Forall = is_deep n
deep (Operand l n) Exists = is_deep n
deep (More l) And = is_deep l.at_and
deep (More l) Or = is_deep l.at_or
deep (More l) Implies = is_deep l.at_implies
deep _ _ = false

abbrev pub rules : Rules Terminal Phrase
rules = record { production = production; is_nullable = is_nullable; deep = deep }

-- what may come next after a phrase; of one that is never without tokens it is not asked
abbrev pub follow : Phrase → Terminal → Bool
follow Items _ = false
follow Parameters Colon = true
follow Parameters _ = false
follow Labels Close = true
follow Labels _ = false
follow SecondLabel Close = true
follow SecondLabel _ = false
follow (Operand l n) Close = true
follow (Operand l n) Dot = true
follow (Operand l n) _ = false
follow (More l) Close = true
follow (More l) Dot = true
follow (More l) _ = false
follow Arguments And = true
follow Arguments Or = true
follow Arguments Implies = true
follow Arguments Close = true
follow Arguments Dot = true
follow Arguments _ = false
follow _ _ = true

-- All terminals. A new one goes last, here and in `listed`, which then asks for its row, so that no place moves.
abbrev pub terminals : List Terminal
terminals =
    StageName ∷ Axiom ∷ DefineMacro ∷ ExpandMacro ∷ Forall ∷ Exists ∷ Microop ∷ Core ∷ OneEdge ∷ EdgeList ∷ OneNode
    ∷ NodeList
    ∷ Name ∷ Number ∷ Quoted ∷ Text ∷ Open ∷ Close ∷ OpenBracket ∷ CloseBracket ∷ Comma ∷ Semicolon ∷ Colon
    ∷ Dot ∷ Not ∷ And ∷ Or ∷ Implies ∷ Arrow ∷ []

-- the place of a terminal among all
abbrev pub listed : AreListed terminals
listed StageName = (0, refl)
listed Axiom = (1, refl)
listed DefineMacro = (2, refl)
listed ExpandMacro = (3, refl)
listed Forall = (4, refl)
listed Exists = (5, refl)
listed Microop = (6, refl)
listed Core = (7, refl)
listed OneEdge = (8, refl)
listed EdgeList = (9, refl)
listed OneNode = (10, refl)
listed NodeList = (11, refl)
listed Name = (12, refl)
listed Number = (13, refl)
listed Quoted = (14, refl)
listed Text = (15, refl)
listed Open = (16, refl)
listed Close = (17, refl)
listed OpenBracket = (18, refl)
listed CloseBracket = (19, refl)
listed Comma = (20, refl)
listed Semicolon = (21, refl)
listed Colon = (22, refl)
listed Dot = (23, refl)
listed Not = (24, refl)
listed And = (25, refl)
listed Or = (26, refl)
listed Implies = (27, refl)
listed Arrow = (28, refl)

-- a terminal with which a text of the phrase begins, and a rank above those of the phrases after it
abbrev first : Phrase → Terminal
first Items = StageName
first Parameters = Quoted
first Label = Text
first (Operand l n) = Name
first (More l) = And
first Arguments = Name
first Argument = Name
first Node = Open
first Location = Name
first Edge = Open
first Labels = Comma
first SecondLabel = Comma
first SortWord = Core
first Nodes = CloseBracket
first MoreNodes = CloseBracket
first Edges = CloseBracket
first MoreEdges = CloseBracket

abbrev rank : Phrase → ℕ
rank (Operand l n) = 1
rank Node = 1
rank Edge = 2
rank _ = 0

-- the two tests of each phrase
tested : (n : Phrase) → (is_predictable_part rules follow terminals n ≡ true) × (is_ranked_part rules first rank n ≡ true)
tested Items = (refl, refl)
tested Parameters = (refl, refl)
tested Label = (refl, refl)
tested (Operand l n) = (refl, refl)
tested (More l) = (refl, refl)
tested Arguments = (refl, refl)
tested Argument = (refl, refl)
tested Node = (refl, refl)
tested Location = (refl, refl)
tested Edge = (refl, refl)
tested Labels = (refl, refl)
tested SecondLabel = (refl, refl)
tested SortWord = (refl, refl)
tested Nodes = (refl, refl)
tested MoreNodes = (refl, refl)
tested Edges = (refl, refl)
tested MoreEdges = (refl, refl)

pub is_predictable : IsPredictable rules follow
is_predictable = predictable_by rules follow terminals (λ c. (listed c).0) (λ c. (listed c).1) (λ n. (tested n).0)

pub has_texts : HasTexts rules
has_texts = texts_by rules first rank (λ n. (tested n).1)
