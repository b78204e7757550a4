-- What a listing says, in the order of its text.
use Rattle.std.specs.Prelude.{ℕ, ◌+◌, Bool, true, false, List, [], ◌∷◌, ◌++◌, map}
use Rattle.x86_litmus.specs.Listing.{Named, Location, bare, bracketed, Stated, Block, no_values, values, Action, Cell, empty, instruction, Row, Equation, of_register, of_location, Condition, Listing}

pub data Item : Type 0 where
  -- a location and its value before the test
  initial : Named → ℕ → Item
  -- the name of the next column
  column : Named → Item
  -- an instruction in the column of this number, whose word stands at this place
  instructed : ℕ → ℕ → Action → Item
  -- a line of this many cells, and where its ";" stands
  row_ended : ℕ → ℕ → Item
  -- the condition is denied
  denied : Item
  -- a thread, where its number stands, its register and the value
  register_is : ℕ → ℕ → Named → ℕ → Item
  -- a location and its value after the test
  final : Named → ℕ → Item

abbrev pub name_of : Location → Named
name_of (bare n) = n
name_of (bracketed n) = n

abbrev pub initial_of : Stated → Item
initial_of s = initial (name_of s.location) s.value

abbrev pub items_of_block : Block → List Item
items_of_block no_values = []
items_of_block (values s ss last) = initial_of s ∷ map initial_of ss

-- the instruction in the column of this number
abbrev pub items_of_cell : ℕ → Cell → List Item
items_of_cell k empty = []
items_of_cell k (instruction at action) = instructed k at action ∷ []

-- the cells after that of the column of this number, and the end of the line
abbrev pub items_of_cells : ℕ → List Cell → ℕ → List Item
items_of_cells k [] end = row_ended (k + 1) end ∷ []
items_of_cells k (c ∷ cs) end = items_of_cell (k + 1) c ++ items_of_cells (k + 1) cs end

abbrev pub items_of_row : Row → List Item
items_of_row r = items_of_cell 0 r.first ++ items_of_cells 0 r.others r.end

abbrev pub item_of_equation : Equation → Item
item_of_equation (of_register thread at register value) = register_is thread at register value
item_of_equation (of_location s) = final (name_of s.location) s.value

abbrev pub items_of_denial : Bool → List Item
items_of_denial false = []
items_of_denial true = denied ∷ []

abbrev pub items_of_condition : Condition → List Item
items_of_condition c = items_of_denial c.denied ++ (item_of_equation c.first ∷ map item_of_equation c.others)

abbrev pub items_of_rows : List Row → Condition → List Item
items_of_rows [] c = items_of_condition c
items_of_rows (r ∷ rs) c = items_of_row r ++ items_of_rows rs c

abbrev pub items_of : Listing → List Item
items_of l =
    items_of_block l.block ++ (column l.first_column ∷ (map column l.columns ++ items_of_rows l.rows l.condition))
