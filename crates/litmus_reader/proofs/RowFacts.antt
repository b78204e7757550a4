-- The rows of the table of faults, one after the other, and over all earlier micro-ops.
use Rattle.std.proofs.Common.{◌≡◌, ℕ, ◌+◌, ◌<◌, ◌≤◌, Bool, true, false, ◌==◌, ◌&&◌, List, Option, Some, None, length, get_or, refl, sym, ap, subst, ◌∙◌, inl, inr, arith, eq-eqb}
use Rattle.std.proofs.lemmas.{Bool.{eqb-true}, Option.{slice_get-get_or}, List.Sums.{fails_before_first, passes_at_first, position_or_len_is}}
use Rattle.std.specs.Prelude.{Contains}
use Rattle.pc_common.specs.declared.{place.Place.{Place}, fault.FaultKind.{FaultKind}}
use Rattle.litmus_reader.specs.{Items.{is_named, place_in}, Content.{Never, First, SomeEarlier}, Rows.{Answers}, declared.item.{Head.{Head}, End.{End}}}
use Rattle.litmus_reader.specs.declared.content_fault.ContentFault.{ContentFault}
use borrow.Author.Count.{below_more}

-- the second row's answer, where the first gives none
pub first-none : (Row Others : FaultKind → Place → Type 0) → Never Row → (found : Option ContentFault) → Answers Others found → Answers (First Row Others) found
first-none Row Others never None others = λ kind at h. elim h [ inl row ↦ never kind at row | inr pair ↦ others kind at pair.1 ]
first-none Row Others never (Some r) others = inr (never, others)

pub never-of : (Row : FaultKind → Place → Type 0) → (found : Option ContentFault) → found ≡ None → Answers Row found → Never Row
never-of Row found e row = subst (Answers Row) e row

same_item : {X : Type 0} (xs : List X) (i : ℕ) (x y : X) → i < length xs → get_or xs i x ≡ x → get_or xs i y ≡ y → x ≡ y
same_item xs i x y below at_x at_y =
    let a = slice_get-get_or xs i x below in
    let b = slice_get-get_or xs i y below in
    sym at_x ∙ (cc) ∙ at_y

pub at_itself : {X : Type 0} (xs : List X) (i : ℕ) (d : X) → i < length xs → get_or xs i (get_or xs i d) ≡ get_or xs i d
at_itself xs i d below =
    let a = slice_get-get_or xs i d below in
    let b = slice_get-get_or xs i (get_or xs i d) below in cc

-- a head of zeros
abbrev pub nobody : Head
nobody = record {
  at = record { offset = 0 };
  g = record { value = 0; at = record { offset = 0 } };
  core =
      record { value = 0; at = record { offset = 0 } };
  thread = record { value = 0; at = record { offset = 0 } };
  n = 0;
}

-- none of the first i gives the fault
abbrev pub NeverBelow : List Head → ℕ → (Head → FaultKind → Place → Type 0) → Type 0
NeverBelow before i Row = (k : ℕ) (e : Head) → k < i → get_or before k e ≡ e → Never (Row e)

pub never-more : (before : List Head) (i : ℕ) (Row : Head → FaultKind → Place → Type 0) (d : Head) → i < length before
    → NeverBelow before i Row → Never (Row (get_or before i d)) → NeverBelow before (i + 1) Row
never-more before i Row d within below here = λ k e less there.
    below_more (λ (j : ℕ). (h : Head) → get_or before j h ≡ h → Never (Row h)) i (λ j lower h is. below j h lower is)
    (λ h is. subst (λ (y : Head). Never (Row y)) (same_item before i (get_or before i d) h within (at_itself before i d within) is) here) k less e there

pub never-all : (before : List Head) (Row : Head → FaultKind → Place → Type 0) → NeverBelow before (length before) Row → Never (SomeEarlier before Row)
never-all before Row below = λ kind at h. below h.1.0 h.0 h.1.1 h.1.2 kind at h.2

and_true : (a b : Bool) → (a && b) ≡ true → (a ≡ true) × (b ≡ true)
and_true true b e = (refl, e)
and_true false b e = absurd (cc)

-- a micro-op that a relationship names
pub named : (x : End) (e : Head) → is_named x e ≡ true → (e.g.value ≡ x.g.value) × (e.n ≡ x.n)
named x e h = let parts = and_true (e.g.value == x.g.value) (e.n == x.n) h in
    (eqb-true e.g.value x.g.value parts.0, eqb-true e.n x.n parts.1)

pub is_named-of : (x : End) (e : Head) → e.g.value ≡ x.g.value → e.n ≡ x.n → is_named x e ≡ true
is_named-of x e g n =
    let a : (e.g.value == x.g.value) ≡ true = eq-eqb e.g.value x.g.value g in
    let b : (e.n == x.n) ≡ true = eq-eqb e.n x.n n in
    λ i. a i && b i

-- the place of a named micro-op is that of one
pub place_in-named : (before : List Head) (x : End) (d : Head) → place_in before x < length before
    → ((e : Head) → Contains before e → e.g.value ≡ x.g.value → e.n ≡ x.n → ⊥) → ⊥
place_in-named before x d below none =
    let e = get_or before (place_in before x) d in
    let yes = named x e (passes_at_first (is_named x) before d below) in
    none e (place_in before x, below, at_itself before (place_in before x) d below) yes.0 yes.1

-- no micro-op before it is named
pub place_in-none : (before : List Head) (x : End) → length before ≤ place_in before x
    → (e : Head) → Contains before e → e.g.value ≡ x.g.value → e.n ≡ x.n → ⊥
place_in-none before x past e (k, below, at) g n =
    let no : is_named x (get_or before k e) ≡ false = fails_before_first (is_named x) before k e (omega arith) in
    let yes : is_named x e ≡ true = is_named-of x e g n in
    let h : is_named x (get_or before k e) ≡ is_named x e = ap (is_named x) at in cc

-- the place up to which none is named
pub place_in-is : (before : List Head) (x : End) (i : ℕ) → i ≤ length before → ((j : ℕ) (h : Head) → j < i → is_named x (get_or before j h) ≡ false)
    → (i < length before → is_named x (get_or before i nobody) ≡ true) → i ≡ place_in before x
place_in-is before x i within none here = sym (position_or_len_is (is_named x) before i nobody within (λ j below. none j nobody below) here)
