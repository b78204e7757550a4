-- The grammar of listings after their header, production by production: what is expected of the tokens, from the
-- first to the last. Its words are names by their spelling, and none is reserved: a cell that begins with MOV or MFENCE
-- is an instruction, and what stands after the rows begins with exists or ~.
use Rattle.std.specs.Prelude.{ℕ, Bool, true, false, List, [], ◌∷◌, ◌++◌, codes}
use Rattle.uspec_lexer.specs.{Token.{Token}, Expected.{Expected, a_word, placed_word, a_number, placed_number, a_symbol, placed_symbol, Spell}}
use Rattle.x86_litmus.specs.Listing.{Named, Location, bare, bracketed, Stated, Block, no_values, values, Action, fence, store, load, Cell, empty, instruction, Row, Equation, of_register, of_location, Condition, Listing}

-- a name of this spelling at this place
abbrev pub a_name : Named → Expected
a_name n = placed_word n.word n.at

-- NAME | "[" NAME "]"
abbrev pub spelled_location : Location → List Expected
spelled_location (bare n) = a_name n ∷ []
spelled_location (bracketed n) = a_symbol (codes "[") ∷ a_name n ∷ a_symbol (codes "]") ∷ []

-- loc "=" NUMBER
abbrev pub spelled_stated : Stated → List Expected
spelled_stated s = spelled_location s.location ++ (a_symbol (codes "=") ∷ a_number s.value ∷ [])

-- (";" init)* [";"] "}"
abbrev pub spelled_values : List Stated → Bool → List Expected
spelled_values [] false = a_symbol (codes "}") ∷ []
spelled_values [] true = a_symbol (codes ";") ∷ a_symbol (codes "}") ∷ []
spelled_values (s ∷ ss) last = a_symbol (codes ";") ∷ (spelled_stated s ++ spelled_values ss last)

-- [init (";" init)* [";"]] "}"
abbrev pub spelled_block : Block → List Expected
spelled_block no_values = a_symbol (codes "}") ∷ []
spelled_block (values s ss last) = spelled_stated s ++ spelled_values ss last

-- ("|" NAME)* ";"
abbrev pub spelled_columns : List Named → List Expected
spelled_columns [] = a_symbol (codes ";") ∷ []
spelled_columns (n ∷ ns) = a_symbol (codes "|") ∷ a_name n ∷ spelled_columns ns

-- MFENCE | MOV "[" NAME "]" "," "$" NUMBER | MOV NAME "," "[" NAME "]"
abbrev pub spelled_action : ℕ → Action → List Expected
spelled_action at fence = placed_word (codes "MFENCE") at ∷ []
spelled_action at (store location value) =
    placed_word (codes "MOV") at ∷ a_symbol (codes "[") ∷ a_name location ∷ a_symbol (codes "]") ∷ a_symbol (codes ",")
    ∷ a_symbol (codes "$") ∷ a_number value ∷ []
spelled_action at (load register location) =
    placed_word (codes "MOV") at ∷ a_name register ∷ a_symbol (codes ",") ∷ a_symbol (codes "[") ∷ a_name location
    ∷ a_symbol (codes "]") ∷ []

-- nothing or an instruction
abbrev pub spelled_cell : Cell → List Expected
spelled_cell empty = []
spelled_cell (instruction at action) = spelled_action at action

-- ("|" cell)* ";"
abbrev pub spelled_cells : List Cell → ℕ → List Expected
spelled_cells [] end = placed_symbol (codes ";") end ∷ []
spelled_cells (c ∷ cs) end = a_symbol (codes "|") ∷ (spelled_cell c ++ spelled_cells cs end)

-- cell ("|" cell)* ";"
abbrev pub spelled_row : Row → List Expected
spelled_row r = spelled_cell r.first ++ spelled_cells r.others r.end

-- NUMBER ":" NAME "=" NUMBER | loc "=" NUMBER
abbrev pub spelled_equation : Equation → List Expected
spelled_equation (of_register thread at register value) =
    placed_number thread at ∷ a_symbol (codes ":") ∷ a_name register ∷ a_symbol (codes "=") ∷ a_number value ∷ []
spelled_equation (of_location s) = spelled_stated s

-- ("/\" eq)*
abbrev pub spelled_equations : List Equation → List Expected
spelled_equations [] = []
spelled_equations (e ∷ es) = a_symbol (codes "/\\") ∷ (spelled_equation e ++ spelled_equations es)

-- eq ("/\" eq)*
abbrev pub spelled_conjunction : Equation → List Equation → List Expected
spelled_conjunction e es = spelled_equation e ++ spelled_equations es

-- conj | "(" conj ")"
abbrev pub spelled_asked : Bool → Equation → List Equation → List Expected
spelled_asked false e es = spelled_conjunction e es
spelled_asked true e es = a_symbol (codes "(") ∷ (spelled_conjunction e es ++ a_symbol (codes ")") ∷ [])

-- ["~"]
abbrev pub spelled_denial : Bool → List Expected
spelled_denial false = []
spelled_denial true = a_symbol (codes "~") ∷ []

-- ["~"] exists (conj | "(" conj ")")
abbrev pub spelled_condition : Condition → List Expected
spelled_condition c =
    spelled_denial c.denied ++ (a_word (codes "exists") ∷ spelled_asked c.in_brackets c.first c.others)

-- (line ";")* cond
abbrev pub spelled_rows : List Row → Condition → List Expected
spelled_rows [] c = spelled_condition c
spelled_rows (r ∷ rs) c = spelled_row r ++ spelled_rows rs c

-- "{" [init (";" init)* [";"]] "}" NAME ("|" NAME)* ";" (line ";")* cond
abbrev pub spelled_listing : Listing → List Expected
spelled_listing l =
    a_symbol (codes "{") ∷ (spelled_block l.block ++ (a_name l.first_column ∷ (spelled_columns l.columns
    ++ spelled_rows l.rows l.condition)))

-- the tokens are a listing of these parts
abbrev pub IsListingOf : Listing → List Token → Type 0
IsListingOf l ts = Spell (spelled_listing l) ts

-- the tokens are a listing
abbrev pub IsListing : List Token → Type 0
IsListing ts = (l : Listing) × IsListingOf l ts
