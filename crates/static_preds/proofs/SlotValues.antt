-- What stands in a slot that is bound: a value of the slot's sort, in range where all slots are.
use Rattle.std.proofs.{Common.{◌≡◌, ℕ, ◌<◌, List, Some, length, slice_get, ap}, lemmas.{Option.{slice_get_within}, List.{length-map}}}
use Rattle.std.specs.Prelude.{unwrap_or}
use Rattle.pc_common.{specs.Case.{Case}, proofs.Places.{at_map}}
use Rattle.pc_syntax.specs.declared.{term.Sort.{Sort, TheVariants.{Core as core_sort}}, bound.Bound.{Bound, TheVariants.{Op, Core}}}
use Rattle.pc_syntax.specs.{Truth.{a_core}, Closed.{meaning_of, value_at}, IsClosed.{IsBound}}
use Rattle.static_preds.specs.{Values.{meanings, sort_bound, scope_of}, Slots.{AreInRange, IsInRange}}

pub has_slot : (slots : List Bound) (k : ℕ) → k < length (scope_of slots) → k < length slots
has_slot slots k within = simp length-map at within

pub slot_within : (slots : List Bound) (k : ℕ) (sort : Sort) → IsBound (scope_of slots) k sort → k < length slots
slot_within slots k sort bound = has_slot slots k (slice_get_within (scope_of slots) k sort bound)

pub sort_there : (slots : List Bound) (k : ℕ) (b : Bound) → slice_get slots k ≡ Some b
    → unwrap_or (slice_get (scope_of slots) k) core_sort ≡ sort_bound b
sort_there slots k b there = ap (λ s. unwrap_or s core_sort) (at_map sort_bound slots k b there)

pub sort_in_slot : (slots : List Bound) (k : ℕ) (b : Bound) (sort : Sort) → slice_get slots k ≡ Some b
    → IsBound (scope_of slots) k sort → sort_bound b ≡ sort
sort_in_slot slots k b sort there bound = let its_sort = at_map sort_bound slots k b there in cc

pub meaning_in_slot : (slots : List Bound) (k : ℕ) (b : Bound) → slice_get slots k ≡ Some b → value_at (meanings slots) k ≡ meaning_of b
meaning_in_slot slots k b there = ap (λ m. unwrap_or m (a_core 0)) (at_map meaning_of slots k b there)

pub slot_in_range : (c : Case) (slots : List Bound) (k : ℕ) (b : Bound) → AreInRange c slots → slice_get slots k ≡ Some b → IsInRange c b
slot_in_range c slots k (Op i) all there = all.ops k i there
slot_in_range c slots k (Core n) all there = all.cores k n there
