-- What the tables of a case hold, as plain data.
use Rattle.std.specs.{Prelude.{ℕ, ◌≡◌, Bool, false, List, Some, None, ◌==◌, ◌&&◌}, Option.{option_map}, Map.{lookup}}
use Rattle.pc_common.specs.{declared.value.Value.{Value}, Case.{Address as PlainAddress, Value as PlainValue, Dependency}, Names.{same_name}}
use Rattle.pc_common.specs.{Addresses.{same_address, stated_at}, Dependencies.{depends_by}}
use Rattle.pc_case.specs.{declared.{address.Address.{Address}, dependency.Ends.{Ends}, name_set.NameSet.{NameSet}}, NameSets.{has_name}}
use Rattle.pc_case.specs.Plain.{address_at, plain_value}

-- the value at an address is the one that the list states for it
abbrev pub AreValuesOf : List (Address × Value) → List (PlainAddress × PlainValue) → Type 0
AreValuesOf es ss =
    (pa : Address) → option_map plain_value (lookup (λ k. same_address (address_at k) (address_at pa)) es) ≡ stated_at ss (address_at pa)

-- these are the places i and j
abbrev pub are_ends : ℕ → ℕ → Ends → Bool
are_ends i j e = (i == e.source) && (j == e.target)

-- whether the table has a dependency of this kind from i to j
abbrev pub has_kind : List (Ends × NameSet) → List ℕ → ℕ → ℕ → Bool
has_kind es kind i j = elim (lookup (are_ends i j) es) [ None ↦ false | Some kinds ↦ has_name kinds kind ]

-- a dependency of the first kind between these ends is one of this kind from i to j
abbrev pub goes_between : List ℕ → Ends → List ℕ → ℕ → ℕ → Bool
goes_between name e kind i j = same_name name kind && are_ends i j e

-- the table answers by the list
abbrev pub IsTableOf : List (Ends × NameSet) → List Dependency → Type 0
IsTableOf es ds = (kind : List ℕ) (i j : ℕ) → has_kind es kind i j ≡ depends_by ds kind i j
