-- The grammar of listings as a table: what stands after a token where a phrase begins with it.
use Rattle.std.specs.Prelude.{◌≡◌, ℕ, Bool, true, false, List, [], ◌∷◌, Option, Some, None, refl, if◌then◌else◌}
use Rattle.ll_grammar.specs.{Rules.{Rules}, Predictable.{IsPredictable, HasTexts}}
use Rattle.ll_grammar.specs.{LawsOfTables.{AreListed, predictable_by, texts_by, is_predictable_part, is_ranked_part}, declared.grammar.Symbol.{Symbol}}
use Rattle.ll_grammar.specs.declared.grammar.Symbol.TheVariants.{Terminal as a_terminal, Nonterminal as a_nonterminal}
use Rattle.x86_litmus.specs.{Terminals.{is_name}, declared.terminal.Terminal.{Terminal}}
use Rattle.x86_litmus.specs.declared.terminal.Terminal.TheVariants.{Mov, Mfence, Exists, Name, Number, OpenBrace, CloseBrace, Semicolon, Bar, OpenBracket, CloseBracket, Comma, Dollar, Colon, Equals, Open, Close, Tilde, And, Other}
use Rattle.x86_litmus.specs.declared.phrase.Phrase.{Phrase}
use Rattle.x86_litmus.specs.declared.phrase.Phrase.TheVariants.{Listing, Values, MoreValues, Columns, MoreColumns, Rows, Cells, MoreCells, Move, Asked, Equations, MoreEquations, AnyName}

-- "=" NUMBER, and what stands after it
abbrev pub number_and : Phrase → List (Symbol Terminal Phrase)
number_and n = a_terminal Equals ∷ a_terminal Number ∷ a_nonterminal n ∷ []

-- a location after its bracket, "=" NUMBER, and what stands after it
abbrev pub bracketed_and : Phrase → List (Symbol Terminal Phrase)
bracketed_and n = a_nonterminal AnyName ∷ a_terminal CloseBracket ∷ number_and n

-- a register after its thread, "=" NUMBER, and what stands after it
abbrev pub register_and : Phrase → List (Symbol Terminal Phrase)
register_and n = a_terminal Colon ∷ a_nonterminal AnyName ∷ number_and n

abbrev pub production : Phrase → Terminal → Option (List (Symbol Terminal Phrase))
production Listing OpenBrace = Some (a_nonterminal Values ∷ a_nonterminal Columns ∷ a_nonterminal Rows ∷ [])
production Values CloseBrace = Some []
production Values OpenBracket = Some (bracketed_and MoreValues)
production Values c = if is_name c then Some (number_and MoreValues) else None
production MoreValues CloseBrace = Some []
production MoreValues Semicolon = Some (a_nonterminal Values ∷ [])
production Columns c = if is_name c then Some (a_nonterminal MoreColumns ∷ []) else None
production MoreColumns Bar = Some (a_nonterminal Columns ∷ [])
production MoreColumns Semicolon = Some []
production Rows Tilde = Some (a_terminal Exists ∷ a_nonterminal Asked ∷ [])
production Rows Exists = Some (a_nonterminal Asked ∷ [])
production Rows Mov = Some (a_nonterminal Move ∷ a_nonterminal MoreCells ∷ [])
production Rows Mfence = Some (a_nonterminal MoreCells ∷ [])
production Rows Bar = Some (a_nonterminal Cells ∷ [])
production Rows Semicolon = Some (a_nonterminal Rows ∷ [])
production Cells Mov = Some (a_nonterminal Move ∷ a_nonterminal MoreCells ∷ [])
production Cells Mfence = Some (a_nonterminal MoreCells ∷ [])
production Cells Bar = Some (a_nonterminal Cells ∷ [])
production Cells Semicolon = Some (a_nonterminal Rows ∷ [])
production MoreCells Bar = Some (a_nonterminal Cells ∷ [])
production MoreCells Semicolon = Some (a_nonterminal Rows ∷ [])
production Move OpenBracket = Some (a_nonterminal AnyName ∷ a_terminal CloseBracket ∷ a_terminal Comma ∷ a_terminal Dollar ∷ a_terminal Number ∷ [])
production Move c =
    if is_name c then Some (a_terminal Comma ∷ a_terminal OpenBracket ∷ a_nonterminal AnyName ∷ a_terminal CloseBracket ∷ []) else None
production Asked Open = Some (a_nonterminal Equations ∷ a_terminal Close ∷ [])
production Asked Number = Some (register_and MoreEquations)
production Asked OpenBracket = Some (bracketed_and MoreEquations)
production Asked c = if is_name c then Some (number_and MoreEquations) else None
production Equations Number = Some (register_and MoreEquations)
production Equations OpenBracket = Some (bracketed_and MoreEquations)
production Equations c = if is_name c then Some (number_and MoreEquations) else None
production MoreEquations And = Some (a_nonterminal Equations ∷ [])
production AnyName c = if is_name c then Some [] else None
production _ _ = None

abbrev pub is_nullable : Phrase → Bool
is_nullable MoreEquations = true
is_nullable _ = false

-- nothing nests, so no token stands too deep
abbrev pub deep : Phrase → Terminal → Bool
deep n c = false

abbrev pub rules : Rules Terminal Phrase
rules = record { production = production; is_nullable = is_nullable; deep = deep }

-- which terminals may come next after a phrase
abbrev pub follow : Phrase → Terminal → Bool
follow Values c = is_name c
follow MoreValues c = is_name c
follow Columns Tilde = true
follow Columns Exists = true
follow Columns Mov = true
follow Columns Mfence = true
follow Columns Bar = true
follow Columns Semicolon = true
follow MoreColumns Tilde = true
follow MoreColumns Exists = true
follow MoreColumns Mov = true
follow MoreColumns Mfence = true
follow MoreColumns Bar = true
follow MoreColumns Semicolon = true
follow Move Bar = true
follow Move Semicolon = true
follow Equations Close = true
follow MoreEquations Close = true
follow AnyName CloseBracket = true
follow AnyName Equals = true
follow _ _ = false

abbrev pub terminals : List Terminal
terminals =
    Mov ∷ Mfence ∷ Exists ∷ Name ∷ Number ∷ OpenBrace ∷ CloseBrace ∷ Semicolon ∷ Bar ∷ OpenBracket ∷ CloseBracket
    ∷ Comma ∷ Dollar ∷ Colon ∷ Equals ∷ Open ∷ Close ∷ Tilde ∷ And ∷ Other ∷ []

-- the place of a terminal among all
abbrev pub listed : AreListed terminals
listed Mov = (0, refl)
listed Mfence = (1, refl)
listed Exists = (2, refl)
listed Name = (3, refl)
listed Number = (4, refl)
listed OpenBrace = (5, refl)
listed CloseBrace = (6, refl)
listed Semicolon = (7, refl)
listed Bar = (8, refl)
listed OpenBracket = (9, refl)
listed CloseBracket = (10, refl)
listed Comma = (11, refl)
listed Dollar = (12, refl)
listed Colon = (13, refl)
listed Equals = (14, refl)
listed Open = (15, refl)
listed Close = (16, refl)
listed Tilde = (17, refl)
listed And = (18, refl)
listed Other = (19, refl)

-- a terminal that leads to shorter phrases
abbrev first : Phrase → Terminal
first Listing = OpenBrace
first Values = CloseBrace
first MoreValues = CloseBrace
first Columns = Name
first MoreColumns = Semicolon
first Rows = Exists
first Cells = Semicolon
first MoreCells = Semicolon
first Move = OpenBracket
first Asked = Name
first Equations = Name
first MoreEquations = And
first AnyName = Name

abbrev rank : Phrase → ℕ
rank Listing = 5
rank Columns = 1
rank Rows = 3
rank Cells = 4
rank MoreCells = 4
rank Move = 1
rank Asked = 2
rank Equations = 2
rank MoreEquations = 1
rank _ = 0

-- the two tests of each phrase
tested : (n : Phrase) → (is_predictable_part rules follow terminals n ≡ true) × (is_ranked_part rules first rank n ≡ true)
tested Listing = (refl, refl)
tested Values = (refl, refl)
tested MoreValues = (refl, refl)
tested Columns = (refl, refl)
tested MoreColumns = (refl, refl)
tested Rows = (refl, refl)
tested Cells = (refl, refl)
tested MoreCells = (refl, refl)
tested Move = (refl, refl)
tested Asked = (refl, refl)
tested Equations = (refl, refl)
tested MoreEquations = (refl, refl)
tested AnyName = (refl, refl)

pub rules_predictable : IsPredictable rules follow
rules_predictable = predictable_by rules follow terminals (λ c. (listed c).0) (λ c. (listed c).1) (λ n. (tested n).0)

pub rules_texts : HasTexts rules
rules_texts = texts_by rules first rank (λ n. (tested n).1)
