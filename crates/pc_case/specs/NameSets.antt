-- When a set of names has a name.
use Rattle.std.specs.Prelude.{ℕ, ◌≡◌, ⊤, Bool, false, List, [], ◌∷◌, ◌++◌, ◌-◌, Some, None, ◌==◌, nat_le, if◌then◌else◌, length, replicate, Vec}
use Rattle.std.specs.{List.{list_any}, Map.{lookup}, declared.alloc.Global.{Global}, HashMap.{HashMap, keys}}
use Rattle.pc_common.specs.Names.{same_name}
use Rattle.pc_case.specs.declared.{long_names.LongNames.{LongNames}, name_set.NameSet.{NameSet}}

-- one of these names is this one
abbrev pub is_known : {S : Type 0} → HashMap (Vec ℕ Global) ⊤ S → List ℕ → Bool
is_known known name = list_any (λ k. same_name name k.items) (keys known)

-- a name of at most 15 bytes with zeros up to place 15, and its length there
abbrev pub padded : List ℕ → List ℕ
padded name = name ++ replicate (15 - length name) 0 ++ length name ∷ []

-- one of these short names is this one
abbrev pub is_short : {S : Type 0} → HashMap (List ℕ) ⊤ S → List ℕ → Bool
is_short known name = list_any (same_name (padded name)) (keys known)

-- one of the names of this name's length is this one
abbrev pub has_long : LongNames → List ℕ → Bool
has_long names name =
    elim (lookup (λ n. length name == n) names.by_length.entries) [ None ↦ false | Some known ↦ is_known known name ]

-- of a name of at most 15 bytes the short names tell, of another the long ones
abbrev pub has_name : NameSet → List ℕ → Bool
has_name names name = if nat_le (length name) 15 then is_short names.short name else has_long names.long name

-- the set answers as the list does
abbrev pub AreNamesOf : NameSet → List (List ℕ) → Type 0
AreNamesOf names listed = (name : List ℕ) → has_name names name ≡ list_any (λ known. same_name known name) listed
