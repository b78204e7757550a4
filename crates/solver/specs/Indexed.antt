-- A list of places with an index that tells where each of them stands.
use Rattle.std.specs.Prelude.{ℕ, ◌+◌, ◌*◌, ◌≡◌, ◌≤◌, List, Some, slice_get, slice_index, if◌then◌else◌}
use Rattle.solver.specs.declared.tree.place.Place.{Place}

-- where the index speaks of a place
abbrev pub slot_of : Place → ℕ
slot_of q = if q.negated then 2 * q.position + 1 else 2 * q.position

-- the place is found where the index says, at or before k
abbrev pub IsFound : List Place → List ℕ → ℕ → Place → Type 0
IsFound items index k q = (slice_index index (slot_of q) ≤ k) × (slice_get items (slice_index index (slot_of q)) ≡ Some q)

-- each place of the list is found at or before where it stands
abbrev pub IsIndexed : List Place → List ℕ → Type 0
IsIndexed items index = (k : ℕ) (q : Place) → slice_get items k ≡ Some q → IsFound items index k q

-- the index says k at this slot, and at the others what it did
abbrev pub IsPut : List ℕ → ℕ → ℕ → List ℕ → Type 0
IsPut old p k new = (slice_index new p ≡ k) × ((q : ℕ) → (q ≡ p → ⊥) → slice_index new q ≡ slice_index old q)
