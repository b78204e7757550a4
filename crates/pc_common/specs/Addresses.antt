-- What an address holds, as a test states it.
use Rattle.std.specs.Prelude.{Bool, false, List, [], ◌∷◌, Option, Some, None, ◌==◌, ◌&&◌, if◌then◌else◌}
use Rattle.pc_common.specs.Case.{PageAt, Address, page, entry_of, TableEntry, Value, number, entry, Case}

abbrev pub same_page : PageAt → PageAt → Bool
same_page p q = (p.tag == q.tag) && (p.index == q.index)

abbrev pub same_address : Address → Address → Bool
same_address (page p) (page q) = same_page p q
same_address (page p) (entry_of t) = false
same_address (entry_of s) (page q) = false
same_address (entry_of s) (entry_of t) = s == t

abbrev pub same_entry : TableEntry → TableEntry → Bool
same_entry e f = (e.tag == f.tag) && (e.accessed == f.accessed) && (e.dirty == f.dirty)

abbrev pub same_value : Value → Value → Bool
same_value (number m) (number n) = m == n
same_value (number m) (entry f) = false
same_value (entry e) (number n) = false
same_value (entry e) (entry f) = same_entry e f

-- the value that the first line for this address states
abbrev pub stated_at : List (Address × Value) → Address → Option Value
stated_at [] a = None
stated_at (s ∷ ss) a = if same_address s.0 a then Some s.1 else stated_at ss a

-- what an address holds where no line states it: a page 0, the entry of a tag that very tag, neither accessed nor
-- dirty
abbrev pub default_at : Address → Value
default_at (page p) = number 0
default_at (entry_of t) = entry (record { tag = t; accessed = 0; dirty = 0 })

-- the initial value at an address: its default where no line states one
abbrev pub initial_at : Case → Address → Value
initial_at c a = elim (stated_at c.initial a) [ None ↦ default_at a | Some v ↦ v ]
