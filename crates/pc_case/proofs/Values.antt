-- Values by address: what a look-up finds, and one more line.
use Rattle.std.proofs.Common.{◌≡◌, ℕ, ◌+◌, ◌<◌, Bool, true, false, List, [], ◌∷◌, ◌++◌, ◌==◌, ◌&&◌, Option, Some, None, map, take, cond, if◌then◌else◌, refl, sym, ap, ◌∙◌, length, get_or, true≢false, arith, suc, zero}
use Rattle.std.{proofs.lemmas.{List.{take_more, map-append}, Bool.{eqb-true}, Option.{slice_get-map, slice_get-get_or}}, specs.Prelude.{slice_get}}
use Rattle.std.specs.{Option.{option_map}, Map.{lookup}, HashMap.{HashMap, Updates}}
use Rattle.pc_common.specs.{Case.{PageAt, Address as PlainAddress, page, entry_of, Value as PlainValue}, declared.value.Value.{Value}}
use Rattle.pc_common.specs.Addresses.{same_page, same_address, stated_at}
use Rattle.pc_case.specs.declared.{address.Address.{Address, TheVariants.{Page, Entry}}, stated.Stated.{Stated}}
use Rattle.pc_case.specs.{contracts.address.AddressPartialEq.TheImpl.{eq-value as address_eq}, Plain.{address_at, plain_value, stated_value}}
use Rattle.pc_case.{specs.{Stated.{IsStatedOnce}, Tables.{AreValuesOf}}, proofs.Lookups.{none_some, eqb_flip}}

-- what `==` says of two addresses
abbrev Same : (Address → Address → Bool) → Type 0
Same eq = (p q : Address) → eq p q ≡ same_address (address_at q) (address_at p)

pub address_eq_flips : Same address_eq.it
address_eq_flips (Page a b) (Page s t) = rw (eqb_flip a s, eqb_flip b t)
address_eq_flips (Page a b) (Entry t) = refl
address_eq_flips (Entry a) (Page s t) = refl
address_eq_flips (Entry a) (Entry t) = eqb_flip a t

-- a look-up by the key finds what the list states
pub lookup_stated : (eq : Address → Address → Bool) → Same eq → (pa : Address) (es : List (Address × Value))
    (ss : List (PlainAddress × PlainValue)) → AreValuesOf es ss → option_map plain_value (lookup (eq pa) es) ≡ stated_at ss (address_at pa)
lookup_stated eq same pa es ss are = ap (option_map plain_value) (λ i. lookup (λ k. same pa k i) es) ∙ are pa

-- the list before place i
before : {X Y : Type 0} (f : X → Y) (xs : List X) (i k : ℕ) (s : Y) → slice_get (map f (take i xs)) k ≡ Some s
    → (k < i) × (slice_get (map f xs) k ≡ Some s)
before f [] zero k s h = absurd (none_some h)
before f [] (suc i) k s h = absurd (none_some h)
before f (x ∷ xs) zero k s h = absurd (none_some h)
before f (x ∷ xs) (suc i) zero s h = (omega arith, h)
before f (x ∷ xs) (suc i) (suc k) s h = let r = before f xs i k s h in (omega arith, r.1)

page_is : (p q : PageAt) → same_page p q ≡ true → p ≡ q
page_is p q h = by (p.tag == q.tag) (p.index == q.index) refl refl h
  where
    by : (s t : Bool) → (p.tag == q.tag) ≡ s → (p.index == q.index) ≡ t → (s && t) ≡ true → p ≡ q
    by true true e f h = λ j. record { tag = eqb-true p.tag q.tag e j; index = eqb-true p.index q.index f j }
    by true false e f h = absurd (true≢false (sym h))
    by false t e f h = absurd (true≢false (sym h))

same_is : (a b : PlainAddress) → same_address a b ≡ true → a ≡ b
same_is (page p) (page q) h = ap page (page_is p q h)
same_is (page p) (entry_of t) h = absurd (true≢false (sym h))
same_is (entry_of s) (page q) h = absurd (true≢false (sym h))
same_is (entry_of s) (entry_of t) h = ap entry_of (eqb-true s t h)

absent_here : (s : PlainAddress × PlainValue) (ss : List (PlainAddress × PlainValue)) (a : PlainAddress) → (s.0 ≡ a → ⊥) → stated_at ss a ≡ None
    → stated_at (s ∷ ss) a ≡ None
absent_here s ss a apart rest = by (same_address s.0 a) refl
  where
    by : (b : Bool) → same_address s.0 a ≡ b → stated_at (s ∷ ss) a ≡ None
    by true e = absurd (apart (same_is s.0 a e))
    by false e = rw e rest

-- nothing is stated at an address that no line is for
absent : (ss : List (PlainAddress × PlainValue)) (a : PlainAddress) → ((k : ℕ) (s : PlainAddress × PlainValue) → slice_get ss k ≡ Some s → s.0 ≡ a → ⊥)
    → stated_at ss a ≡ None
absent [] a none = refl
absent (s ∷ ss) a none = absent_here s ss a (none zero s refl) (absent ss a (λ k. none (suc k)))

same_flip : (a b : PlainAddress) → same_address a b ≡ same_address b a
same_flip (page p) (page q) = rw (eqb_flip p.tag q.tag, eqb_flip p.index q.index) refl
same_flip (page p) (entry_of t) = refl
same_flip (entry_of s) (page q) = refl
same_flip (entry_of s) (entry_of t) = eqb_flip s t

-- what one line states where the others state nothing
abbrev or_last : Option PlainValue → PlainAddress × PlainValue → PlainAddress → Option PlainValue
or_last o s a = elim o [ None ↦ if same_address s.0 a then Some s.1 else None | Some v ↦ Some v ]

or_other : (o : Option PlainValue) (s : PlainAddress × PlainValue) (a : PlainAddress) → same_address s.0 a ≡ false → or_last o s a ≡ o
or_other None s a e = rw e refl
or_other (Some v) s a e = refl

-- one more line, after the others
stated_last : (ss : List (PlainAddress × PlainValue)) (s : PlainAddress × PlainValue) (a : PlainAddress)
    → stated_at (ss ++ s ∷ []) a ≡ or_last (stated_at ss a) s a
stated_last [] s a = refl
stated_last (t ∷ ss) s a = by (same_address t.0 a) refl (stated_last ss s a)
  where
    by : (b : Bool) → same_address t.0 a ≡ b → stated_at (ss ++ s ∷ []) a ≡ or_last (stated_at ss a) s a
        → stated_at (t ∷ ss ++ s ∷ []) a ≡ or_last (stated_at (t ∷ ss) a) s a
    by true e rest = rw e refl
    by false e rest = rw e rest

-- no line before place i states a value at the address of the line there
not_before : (items : List Stated) (i : ℕ) (d : Stated) → IsStatedOnce (map stated_value items) → i < length items
    → (k : ℕ) (s : PlainAddress × PlainValue) → slice_get (map stated_value (take i items)) k ≡ Some s → s.0 ≡ address_at (get_or items i d).pa → ⊥
not_before items i d once within k s at here =
    let x : Stated = get_or items i d in
    let r : (k < i) × (slice_get (map stated_value items) k ≡ Some s) = before stated_value items i k s at in
    let there : slice_get (map stated_value items) i ≡ Some (stated_value x) =
    slice_get-map stated_value items i ∙ ap (option_map stated_value) (slice_get-get_or items i d within) in
    let same : k ≡ i = once k i s (stated_value x) r.1 there here in
    let less : k < i = r.0 in
    omega arith

-- one more line, at an address that no line before is for
module _ {S : Type 0} (eq : Address → Address → Bool) (same : Same eq) (m new : HashMap Address Value S) (items : List Stated) (i : ℕ) (d : Stated) where
  abbrev line : Stated
  line = get_or items i d

  abbrev so_far : List (PlainAddress × PlainValue)
  so_far = map stated_value (take i items)

  pub values_step : IsStatedOnce (map stated_value items) → i < length items → AreValuesOf m.entries (map stated_value (take i items))
      → Updates eq m new (get_or items i d).pa (Some (get_or items i d).value)
      → AreValuesOf new.entries (map stated_value (take (i + 1) items))
  values_step once within was put pa =
      ap (option_map plain_value) (λ j. lookup (λ k. sym (same pa k) j) new.entries)
      ∙ ap (option_map plain_value) (put.0 pa)
      ∙ by (eq line.pa pa) refl
      ∙ sym (ap (λ ss. stated_at ss (address_at pa)) (ap (map stated_value) (take_more items i d within) ∙ map-append stated_value (take i items) (line ∷ [])))
    where
      by : (b : Bool) → eq line.pa pa ≡ b
          → option_map plain_value (cond b (Some line.value) (lookup (eq pa) m.entries)) ≡ stated_at (so_far ++ stated_value line ∷ []) (address_at pa)
      by true e =
          let same_as : same_address (address_at pa) (address_at line.pa) ≡ true = sym (same line.pa pa) ∙ e in
          let there : address_at pa ≡ address_at line.pa = same_is (address_at pa) (address_at line.pa) same_as in
          let here : same_address (address_at line.pa) (address_at line.pa) ≡ true = ap (λ a. same_address a (address_at line.pa)) (sym there) ∙ same_as in
          let none : stated_at so_far (address_at line.pa) ≡ None = absent so_far (address_at line.pa) (not_before items i d once within) in
          sym (ap (stated_at (so_far ++ stated_value line ∷ [])) there ∙ stated_last so_far (stated_value line) (address_at line.pa) ∙ rw (none, here) refl)
      by false e =
          let other : same_address (address_at line.pa) (address_at pa) ≡ false = same_flip (address_at line.pa) (address_at pa) ∙ sym (same line.pa pa) ∙ e in
          lookup_stated eq same pa m.entries so_far was
          ∙ sym (stated_last so_far (stated_value line) (address_at pa) ∙ or_other (stated_at so_far (address_at pa)) (stated_value line) (address_at pa) other)
