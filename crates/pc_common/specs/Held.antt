-- Files kept in memory, the first of two equal names counting.
use Rattle.std.specs.{Prelude.{ℕ, ◌≡◌, List, [], ◌∷◌, Option, Some, None, if◌then◌else◌, slice_get, unwrap_or, MatchOption}, Option.{option_map_or}}
use Rattle.std.specs.Str.{bytes_eq}
use Rattle.pc_common.specs.declared.held.HeldFile.{HeldFile}

-- the bytes of the first file of this name
abbrev pub held_bytes : List HeldFile → List ℕ → Option (List ℕ)
held_bytes [] name = None
held_bytes (file ∷ files) name = if bytes_eq file.name name then Some file.bytes else held_bytes files name

-- the same, but a name of no file holds no bytes
abbrev pub sure_bytes : List HeldFile → List ℕ → Option (List ℕ)
sure_bytes files name = Some (unwrap_or (held_bytes files name) [])

-- the bytes of the file at this place, and none past the last
abbrev pub bytes_at : List HeldFile → ℕ → List ℕ
bytes_at files k = option_map_or (λ file. file.bytes) (slice_get files k) []

-- what the name holds stands at this place; without a place no file has the name
abbrev pub HoldsAt : List HeldFile → List ℕ → Option ℕ → Type 0
HoldsAt files name place =
    MatchOption place (held_bytes files name ≡ None) (λ k. held_bytes files name ≡ Some (bytes_at files k))
