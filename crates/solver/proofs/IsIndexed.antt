-- A list of places with its index: what it finds, and one place more.
use Rattle.std.proofs.Common.{◌≡◌, inl, inr, ℕ, ◌+◌, ◌*◌, Bool, true, false, List, [], ◌∷◌, ◌++◌, Some, length, refl, sym, ap, ◌∙◌, arith, length-append}
use Rattle.std.{proofs.lemmas.{Bool.{cases_lt}, Option.{same_Some, slice_get_within, get_or_from_slice_get}}, specs.Prelude.{slice_get, slice_index, Contains, if◌then◌else◌}}
use Rattle.pc_common.proofs.Places.{slice_get-more, get_before, get_last}
use Rattle.solver.specs.{declared.tree.place.Place.{Place}, Indexed.{slot_of, IsFound, IsIndexed, IsPut}}

pub place_is : (a b : Place) → a.negated ≡ b.negated → a.position ≡ b.position → a ≡ b
place_is a b e f =
    let P : Bool → ℕ → Place = λ n p. record { negated = n; position = p } in
    ap (λ n. P n a.position) e ∙ ap (P b.negated) f

-- no two places have one slot
one_slot : (a b : Place) → slot_of a ≡ slot_of b → a ≡ b
one_slot a b e = (let same = parts a.negated b.negated a.position b.position e in place_is a b same.0 same.1)
  where
    parts : (m n : Bool) (j k : ℕ) → (if m then 2 * j + 1 else 2 * j) ≡ (if n then 2 * k + 1 else 2 * k) → (m ≡ n) × (j ≡ k)
    parts false false j k e = (refl, omega (arith, e))
    parts true true j k e = (refl, omega (arith, e))
    parts m n j k e = absurd (omega (arith, e))

pub has_at : {X : Type 0} (xs : List X) (k : ℕ) (x : X) → slice_get xs k ≡ Some x → Contains xs x
has_at xs k x e = (k, slice_get_within xs k x e, get_or_from_slice_get xs k x x e)

-- what is found in a first part is found in all
found_front : (items more : List Place) (index : List ℕ) (k : ℕ) (q : Place) → IsFound items index k q → IsFound (items ++ more) index k q
found_front items more index k q found =
    (found.0, slice_get-more items more (slice_index index (slot_of q)) q found.1)

-- one more that is found
pushed : (items : List Place) (index : List ℕ) (q : Place) → IsIndexed items index → IsFound (items ++ q ∷ []) index (length items) q
    → IsIndexed (items ++ q ∷ []) index
pushed items index q indexed found = λ k x e. elim (cases_lt k (length items)) [
  | inl before ↦ found_front items (q ∷ []) index k x (indexed k x (sym (get_before items (q ∷ []) k before) ∙ e))
  | inr past ↦
      let at : k ≡ length items = (let size = slice_get_within (items ++ q ∷ []) k x e in omega (arith, size, past, length-append items (q ∷ []))) in
      let same : x ≡ q = same_Some x q (sym e ∙ ap (slice_get (items ++ q ∷ [])) at ∙ get_last items q) in
      rw (at, same) found
]

-- the index of one that is not there may say anything
pub put_kept : (items : List Place) (index new : List ℕ) (q : Place) (slot n : ℕ) → IsIndexed items index → (Contains items q → ⊥) → slot ≡ slot_of q
    → IsPut index slot n new → IsIndexed items new
put_kept items index new q slot n indexed other at put = λ k x e.
    let same = put.1 (slot_of x) (λ one. other (rw (one_slot x q (one ∙ at)) at (has_at items k x e))) in
    rw same (indexed k x e)

pub pushed_new : (items : List Place) (index new : List ℕ) (q : Place) (slot : ℕ) → IsIndexed items index → (Contains items q → ⊥) → slot ≡ slot_of q
    → IsPut index slot (length items) new → IsIndexed (items ++ q ∷ []) new
pushed_new items index new q slot indexed other at put =
    let last : slice_index new (slot_of q) ≡ length items = ap (slice_index new) (sym at) ∙ put.0 in
    pushed items new q (put_kept items index new q slot (length items) indexed other at put)
    (omega (arith, last), ap (slice_get (items ++ q ∷ [])) last ∙ get_last items q)
