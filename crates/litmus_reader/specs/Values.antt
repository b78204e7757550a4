-- The values that lines of one kind state, looked up by address.
use Rattle.std.specs.Prelude.{◌≡◌, ◌≢◌, List, Option, Some, None, Contains}
use Rattle.pc_common.specs.declared.value.Value.{Value}
use Rattle.pc_case.specs.declared.{address.Address.{Address}, stated.Stated.{Stated}}

abbrev pub stated_entry : Address × Value → Stated
stated_entry e = record { pa = e.0; value = e.1 }

-- no line states a value at the address
abbrev pub IsUnstated : List Stated → Address → Type 0
IsUnstated lines pa = (s : Stated) → Contains lines s → s.pa ≢ pa

-- the value of a line at the address, or none where none states one
abbrev pub IsValueAt : List Stated → Address → Option Value → Type 0
IsValueAt lines pa None = IsUnstated lines pa
IsValueAt lines pa (Some v) = (s : Stated) × Contains lines s × (s.pa ≡ pa) × (s.value ≡ v)
