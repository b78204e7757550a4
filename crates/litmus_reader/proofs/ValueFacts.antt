-- Values by address.
use Rattle.std.proofs.Common.{◌≡◌, ◌≢◌, zero, suc, Bool, true, false, ◌==◌, ◌&&◌, List, [], ◌∷◌, ◌++◌, Option, Some, None, map, cond, refl, sym, ap, ◌∙◌, ◌⊎◌, inl, inr, arith, eq-eqb}
use Rattle.std.{proofs.lemmas.{Bool.{eqb-true}, List.{map-append}}, specs.{Prelude.{Contains}, Map.{lookup}}}
use Rattle.indexmap.{specs.IndexMap.{IndexMap, get, insert_entry}, proofs.CallerLemmas.{insert_entry-new}}
use Rattle.pc_common.specs.declared.{fault.FaultKind.{FaultKind}, value.Value.{Value}}
use Rattle.pc_case.specs.declared.{address.Address.{Address, TheVariants.{Page, Entry}}, stated.Stated.{Stated}}
use Rattle.pc_case.specs.contracts.address.AddressPartialEq.TheImpl.{eq-value as address_eq}
use Rattle.litmus_reader.specs.{Values.{stated_entry, IsUnstated, IsValueAt}, Builder.{stated_of}, Items.{value_of}, Content.{Never, AgainStated}}
use Rattle.litmus_reader.specs.declared.item.ValueLine.{ValueLine}

pub contains-cons : {X : Type 0} (x : X) (xs : List X) (y : X) → Contains xs y → Contains (x ∷ xs) y
contains-cons x xs y (k, below, at) = (suc k, omega arith, at)

pub contains-cases : {X : Type 0} (x : X) (xs : List X) (y : X) → Contains (x ∷ xs) y → (x ≡ y) ⊎ Contains xs y
contains-cases x xs y (zero, below, at) = inl at
contains-cases x xs y (suc k, below, at) = inr (k, omega arith, at)

pub contains-none : {X : Type 0} (y : X) → Contains [] y → ⊥
contains-none y (k, below, at) = omega arith

pub contains-map : {X Y : Type 0} (f : X → Y) (xs : List X) (x : X) → Contains xs x → Contains (map f xs) (f x)
contains-map f [] x c = absurd (contains-none x c)
contains-map {X} {Y} f (z ∷ xs) x c = by (λ d. contains-map f xs x d) (contains-cases z xs x c)
  where
    by : (Contains xs x → Contains (map f xs) (f x)) → (z ≡ x) ⊎ Contains xs x → Contains (f z ∷ map f xs) (f x)
    by later (inl e) = (zero, omega arith, ap f e)
    by later (inr d) = contains-cons (f z) (map f xs) (f x) (later d)

pub contains-mapped : {X Y : Type 0} (f : X → Y) (xs : List X) (y : Y) → Contains (map f xs) y → (x : X) × Contains xs x × (f x ≡ y)
contains-mapped f [] y c = absurd (contains-none y c)
contains-mapped {X} {Y} f (z ∷ xs) y c = by (λ d. contains-mapped f xs y d) (contains-cases (f z) (map f xs) y c)
  where
    by : (Contains (map f xs) y → (x : X) × Contains xs x × (f x ≡ y)) → (f z ≡ y) ⊎ Contains (map f xs) y → (x : X) × Contains (z ∷ xs) x × (f x ≡ y)
    by later (inl e) = (z, (zero, omega arith, refl), e)
    by later (inr d) = let (x, c2, e) = later d in (x, contains-cons z xs x c2, e)

address_is : (p q : Address) → address_eq.it p q ≡ true → p ≡ q
address_is (Page a b) (Page t x) h = by (a == t) (b == x) refl refl h
  where
    by : (m n : Bool) → (a == t) ≡ m → (b == x) ≡ n → (m && n) ≡ true → Page a b ≡ Page t x
    by true true e f g = let tag = eqb-true a t e in let index = eqb-true b x f in λ i. Page (tag i) (index i)
    by true false e f g = absurd (cc)
    by false n e f g = absurd (cc)
address_is (Entry a) (Entry t) h = ap Entry (eqb-true a t h)
address_is (Page a b) (Entry t) h = absurd (cc)
address_is (Entry a) (Page t x) h = absurd (cc)

address_itself : (p : Address) → address_eq.it p p ≡ true
address_itself (Page a b) = let tag = eq-eqb a a refl in let index = eq-eqb b b refl in λ i. tag i && index i
address_itself (Entry a) = eq-eqb a a refl

-- what a look-up finds
pub value_at : (pa : Address) (es : List (Address × Value)) → IsValueAt (map stated_entry es) pa (lookup (address_eq.it pa) es)
value_at pa [] = λ s c e. contains-none s c
value_at pa (e ∷ es) = by (value_at pa es) (address_eq.it pa e.0) refl
  where
    later : (o : Option Value) → (pa ≢ e.0) → IsValueAt (map stated_entry es) pa o → IsValueAt (map stated_entry (e ∷ es)) pa o
    later None apart none = λ s c same. elim (contains-cases (stated_entry e) (map stated_entry es) s c) [
      | inl h ↦ apart (sym (ap (λ (x : Stated). x.pa) h ∙ same))
      | inr d ↦ none s d same
    ]
    later (Some v) apart (s, c, same, is) = (s, contains-cons (stated_entry e) (map stated_entry es) s c, same, is)

    by : IsValueAt (map stated_entry es) pa (lookup (address_eq.it pa) es) → (b : Bool) → address_eq.it pa e.0 ≡ b
        → IsValueAt (map stated_entry (e ∷ es)) pa (cond b (Some e.1) (lookup (address_eq.it pa) es))
    by rest true h = (stated_entry e, (zero, omega arith, refl), sym (address_is pa e.0 h), refl)
    by rest false h = later (lookup (address_eq.it pa) es)
        (λ same. let yes = address_itself pa in let no : address_eq.it pa pa ≡ false = ap (address_eq.it pa) same ∙ h in cc) rest

none_of : (lines : List Stated) (pa : Address) (o : Option Value) → IsUnstated lines pa → IsValueAt lines pa o → o ≡ None
none_of lines pa None none at = refl
none_of lines pa (Some v) none (s, c, same, is) = absurd (none s c same)

-- one more line
pub value_added : {S : Type 0} (m : IndexMap Address Value S) (new : List (Address × Value)) (pa : Address) (value : Value)
    → IsUnstated (map stated_entry m.entries) pa → new ≡ insert_entry address_eq.it m.entries pa value
    → map stated_entry new ≡ map stated_entry m.entries ++ record { pa = pa; value = value } ∷ []
value_added m new pa value none is =
    let fresh : get address_eq.it m pa ≡ None = none_of (map stated_entry m.entries) pa _ none (value_at pa m.entries) in
    ap (map stated_entry) (is ∙ insert_entry-new address_eq.it m pa value fresh) ∙ map-append stated_entry m.entries ((pa, value) ∷ [])

-- an earlier line of the address gives the fault of a row
pub again-stated : (word : Value → Value → FaultKind) (before : List ValueLine) (v : ValueLine) → IsUnstated (map stated_of before) v.pa
    → Never (AgainStated word before v)
again-stated word before v none kind at (e, c, same, is, here) = none (stated_of e) (contains-map stated_of before e c) same

pub again-none : (word : Value → Value → FaultKind) (before : List ValueLine) (v : ValueLine) → Never (AgainStated word before v)
    → IsUnstated (map stated_of before) v.pa
again-none word before v never s c same =
    let (e, d, is) = contains-mapped stated_of before s c in
    never (word (value_of e.value) (value_of v.value)) v.at (e, d, ap (λ (x : Stated). x.pa) is ∙ same, refl, refl)

pub again-some : (word : Value → Value → FaultKind) (before : List ValueLine) (v : ValueLine) (first : Value)
    → IsValueAt (map stated_of before) v.pa (Some first) → AgainStated word before v (word first (value_of v.value)) v.at
again-some word before v first (s, c, same, is) =
    let (e, d, that) = contains-mapped stated_of before s c in
    (e, d, ap (λ (x : Stated). x.pa) that ∙ same, ap (λ (n : Value). word n (value_of v.value)) (sym is ∙ sym (ap (λ (x : Stated). x.value) that)), refl)
