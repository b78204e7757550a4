-- Where a reader of a listing's tokens stands, and what it says at each token. It takes the tokens to be a listing: on
-- others what it says has no meaning.
use Rattle.std.specs.Prelude.{ℕ, ◌+◌, List, [], ◌∷◌, Option, Some, None, codes, if◌then◌else◌}
use Rattle.pc_common.specs.Names.{same_name}
use Rattle.uspec_lexer.specs.Token.{Token, Kind, name, number, text, symbol}
use Rattle.x86_litmus.specs.{Listing.{Named, fence, store, load}, Items.{Item, initial, column, instructed, row_ended, denied, register_is, final}}

pub data Spot : Type 0 where
  -- in the block, before a location
  block : Spot
  -- after a location of the block
  valued : Named → Spot
  -- between the columns' names
  head : Spot
  -- in the column of this number, before an instruction or after it
  row : ℕ → Spot
  -- after MOV, which stands at this place
  moving : ℕ → ℕ → Spot
  -- after the bracket of a store
  storing : ℕ → ℕ → Spot
  -- after its location
  stored : ℕ → ℕ → Named → Spot
  -- after the register of a load
  loading : ℕ → ℕ → Named → Spot
  -- in the condition, before an equation
  asking : Spot
  -- after a thread's number
  thread : ℕ → ℕ → Spot
  -- after its register
  register : ℕ → ℕ → Named → Spot
  -- after a location of the condition
  behind : Named → Spot

pub record Step : Type 0 where
  pub next : Spot
  pub item : Option Item

-- goes on and says nothing
abbrev pub goes : Spot → Step
goes s = record { next = s; item = None }

abbrev pub tells : Spot → Item → Step
tells s i = record { next = s; item = Some i }

-- in a line stand the words of the instructions, and after the lines exists
abbrev pub after_word : ℕ → Named → Step
after_word k n =
    if same_name n.word (codes "MOV") then goes (moving k n.at)
    else if same_name n.word (codes "MFENCE") then tells (row k) (instructed k n.at fence)
    else goes asking

abbrev pub after_name : Spot → Named → Step
after_name block n = goes (valued n)
after_name head n = tells head (column n)
after_name (row k) n = after_word k n
after_name (moving k at) n = goes (loading k at n)
after_name (storing k at) n = goes (stored k at n)
after_name (loading k at r) n = tells (row k) (instructed k at (load r n))
after_name asking n = goes (behind n)
after_name (thread t at) n = goes (register t at n)
after_name s n = goes s

abbrev pub after_number : Spot → ℕ → ℕ → Step
after_number (valued n) v at = tells block (initial n v)
after_number (stored k word n) v at = tells (row k) (instructed k word (store n v))
after_number asking v at = goes (thread v at)
after_number (register t place r) v at = tells asking (register_is t place r v)
after_number (behind n) v at = tells asking (final n v)
after_number s v at = goes s

abbrev pub after_row_symbol : ℕ → List ℕ → ℕ → Step
after_row_symbol k piece at =
    if same_name piece (codes "|") then goes (row (k + 1))
    else if same_name piece (codes ";") then tells (row 0) (row_ended (k + 1) at)
    else if same_name piece (codes "~") then tells (row k) denied
    else goes (row k)

abbrev pub after_symbol : Spot → List ℕ → ℕ → Step
after_symbol block piece at = if same_name piece (codes "}") then goes head else goes block
after_symbol head piece at = if same_name piece (codes ";") then goes (row 0) else goes head
after_symbol (row k) piece at = after_row_symbol k piece at
after_symbol (moving k word) piece at = goes (storing k word)
after_symbol s piece at = goes s

abbrev pub after_kind : Spot → Kind → List ℕ → ℕ → Step
after_kind s name piece at = after_name s (record { word = piece; at = at })
after_kind s (number v) piece at = after_number s v at
after_kind s text piece at = goes s
after_kind s symbol piece at = after_symbol s piece at

abbrev pub after : Spot → Token → Step
after s t = after_kind s t.kind t.piece t.at

abbrev pub with_item : Option Item → List Item → List Item
with_item None is = is
with_item (Some i) is = i ∷ is

-- what the tokens from a place on say
abbrev pub items_from : Spot → List Token → List Item
items_from s [] = []
items_from s (t ∷ ts) = with_item (after s t).item (items_from (after s t).next ts)

-- the column of a spot in a line
abbrev pub column_of : Spot → ℕ
column_of (row k) = k
column_of (moving k at) = k
column_of (storing k at) = k
column_of (stored k at n) = k
column_of (loading k at r) = k
column_of _ = 0
