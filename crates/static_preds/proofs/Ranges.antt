-- The values that a quantifier ranges over, one by one, and the slots inside it at each.
use Rattle.std.proofs.Common.{◌≡◌, ℕ, zero, suc, ◌+◌, ◌<◌, ◌≤◌, List, [], ◌∷◌, ◌++◌, Some, length, map, drop, slice_get, refl, ap, ◌∙◌, arith}
use Rattle.std.{proofs.lemmas.List.{map-append, FromFn.{length-map-range_with_len}}, specs.List.{range_with_len}}
use Rattle.pc_common.specs.Case.{MicroOp, Case, cores_of}
use Rattle.pc_case.specs.MicroOps.{AreMicroOps}
use Rattle.pc_syntax.specs.{declared.{term.Sort.{Sort, TheVariants.{Microop, Core}}, bound.Bound.{Bound}}, Truth.{an_op, a_core, range_of}, Closed.{meaning_of}}
use Rattle.pc_syntax.specs.IsClosed.{with_sort}
use Rattle.pc_ground.proofs.TreeNodes.{cores_few}
use Rattle.static_preds.{specs.{Values.{meanings, sort_bound, scope_of}, Slots.{bound_at}}, proofs.Walked.{drop_at}}

pub op_count : (c : Case) → length (range_of c Microop) ≡ length c.ops
op_count c = length-map-range_with_len an_op 0 (length c.ops)

pub core_count : (c : Case) → length (range_of c Core) ≡ cores_of c.ops
core_count c = length-map-range_with_len a_core 0 (cores_of c.ops)

at : {X : Type 0} (f : ℕ → X) (a n k : ℕ) → k < n → slice_get (map f (range_with_len a n)) k ≡ Some (f (a + k))
at f a zero k h = absurd (omega arith)
at f a (suc n) zero h = ap (λ i. Some (f i)) (omega arith)
at f a (suc n) (suc k) h = at f (a + 1) n k (omega arith) ∙ ap (λ i. Some (f i)) (omega arith)

-- the k-th value of a range
pub value : (c : Case) (sort : Sort) (k : ℕ) → k < length (range_of c sort) → slice_get (range_of c sort) k ≡ Some (meaning_of (bound_at sort k))
value c Microop k h = at an_op 0 (length c.ops) k (omega (arith, op_count c)) ∙ ap (λ i. Some (an_op i)) (omega arith)
value c Core k h = at a_core 0 (cores_of c.ops) k (omega (arith, core_count c)) ∙ ap (λ i. Some (a_core i)) (omega arith)

-- the rest of a range begins with its next value
pub next_value : (c : Case) (sort : Sort) (k : ℕ) → k < length (range_of c sort)
    → drop k (range_of c sort) ≡ meaning_of (bound_at sort k) ∷ drop (k + 1) (range_of c sort)
next_value c sort k h = drop_at (range_of c sort) k (k + 1) (meaning_of (bound_at sort k)) (value c sort k h) refl

pub sort_of_value : (sort : Sort) (k : ℕ) → sort_bound (bound_at sort k) ≡ sort
sort_of_value Microop k = refl
sort_of_value Core k = refl

-- the sorts of the slots inside a quantifier
pub scope_inside : (slots inside : List Bound) (sort : Sort) (k : ℕ) (v : Bound) → inside ≡ slots ++ v ∷ [] → v ≡ bound_at sort k
    → scope_of inside ≡ with_sort (scope_of slots) sort
scope_inside slots inside sort k v bound value =
    rw (bound, map-append sort_bound slots (v ∷ [])) (ap (λ s. scope_of slots ++ s ∷ []) (ap sort_bound value ∙ sort_of_value sort k))

-- and what they stand for
pub meanings_inside : (slots inside : List Bound) (sort : Sort) (k : ℕ) (v : Bound) → inside ≡ slots ++ v ∷ [] → v ≡ bound_at sort k
    → meanings inside ≡ meanings slots ++ meaning_of (bound_at sort k) ∷ []
meanings_inside slots inside sort k v bound value =
    rw (bound, map-append meaning_of slots (v ∷ [])) (ap (λ b. meanings slots ++ meaning_of b ∷ []) value)

-- no core of a case is above 63
pub few_cores : (os : List MicroOp) → AreMicroOps os → cores_of os ≤ 64
few_cores os kept = cores_few os kept.cores
