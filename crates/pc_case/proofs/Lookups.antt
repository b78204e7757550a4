-- Sets of names by their length, and kinds by their ends: what one more name changes.
use Rattle.std.proofs.Common.{◌≡◌, ℕ, Bool, true, false, List, [], ◌∷◌, ◌==◌, ◌&&◌, ◌||◌, Option, Some, None, length, refl, sym, ap, ◌∙◌, true≢false, arith, Vec}
use Rattle.std.{proofs.lemmas.{Bool.{eqb-true, eq-eqb, false_from_ne_true, Decides.{nat_tests}}, Map.Made.{is_some-lookup}}, specs.Prelude.{⊤, is_some, cond}}
use Rattle.std.specs.{List.{list_any}, Map.{lookup, set_value, IsKeyTest, AreApart, KeepsOthers}, Cmp.Lexicographic.{bytes_decides}}
use Rattle.std.specs.{declared.alloc.Global.{Global}, HashMap.{HashMap, keys, get_by, Updates}}
use Rattle.pc_common.{specs.Names.{same_name}, proofs.Bools.{or_true, and_false}}
use Rattle.pc_case.specs.{declared.{dependency.Ends.{Ends}, name_set.NameSet.{NameSet}}, NameSets.{is_known, has_name}}
use Rattle.pc_case.specs.Tables.{are_ends, has_kind, goes_between}

pub none_some : {X : Type 0} {x : X} → None ≡ Some x → ⊥
none_some e = cc

pub or_false : (s : Bool) → s ≡ (s || false)
or_false true = refl
or_false false = refl

-- `same` answers whether two keys are one
abbrev Tests : {K : Type 0} → (K → K → Bool) → Type 0
Tests same = (p q : _) → (same p q ≡ true → p ≡ q) × (p ≡ q → same p q ≡ true)

module _ {K V : Type 0} (same : K → K → Bool) (tests : Tests same) (f : V → Bool) where
  abbrev found : Option V → Bool
  found o = elim o [ None ↦ false | Some s ↦ f s ]

  abbrev at : K → List (K × V) → Option V
  at p es = lookup (same p) es

  abbrev with_at : K → List (K × V) → V → List (K × V)
  with_at p es w = set_value (same p) es w

  -- one key and another, by what they are to a third
  met : (p q x : K) → same p x ≡ true → same q x ≡ true → same p q ≡ true
  met p q x e g = (tests p q).1 ((tests p x).0 e ∙ sym ((tests q x).0 g))

  apart : (p q x : K) → same p x ≡ true → same q x ≡ false → same p q ≡ false
  apart p q x e g = false_from_ne_true (same p q) (λ h. true≢false (sym e ∙ ap (λ r. same r x) ((tests p q).0 h) ∙ g))

  apart_else : (p q x : K) → same p x ≡ false → same q x ≡ true → same p q ≡ false
  apart_else p q x e g = false_from_ne_true (same p q) (λ h. true≢false (sym g ∙ sym (ap (λ r. same r x) ((tests p q).0 h)) ∙ e))

  -- one entry and those after it, where the value at p becomes w
  written_more : (p q : K) (x : K × V) (es : List (K × V)) (s w : V) (b : Bool) → f w ≡ (f s || b) → at p (x ∷ es) ≡ Some s
      → (at p es ≡ Some s → found (at q (with_at p es w)) ≡ (found (at q es) || (same p q && b)))
      → found (at q (with_at p (x ∷ es) w)) ≡ (found (at q (x ∷ es)) || (same p q && b))
  written_more p q x es s w b is here rest = by (same p x.0) (same q x.0) refl refl
    where
      by : (a c : Bool) → same p x.0 ≡ a → same q x.0 ≡ c
          → found (at q (with_at p (x ∷ es) w)) ≡ (found (at q (x ∷ es)) || (same p q && b))
      by true true e g =
          let k : same p q ≡ true = met p q x.0 e g in
          let i : Some x.1 ≡ Some s = rw e at here in
          let j : x.1 ≡ s = cc in
          rw (e, g, k, j) is
      by true false e g = let k : same p q ≡ false = apart p q x.0 e g in rw (e, g, k) (or_false (found (at q es)))
      by false true e g = let k : same p q ≡ false = apart_else p q x.0 e g in rw (e, g, k) (or_false (f x.1))
      by false false e g = rw (e, g) (rest (rw e at here))

  -- the value at p, which was s, becomes w, which says what s does and b
  written : (p q : K) (es : List (K × V)) (s w : V) (b : Bool) → f w ≡ (f s || b) → at p es ≡ Some s
      → found (at q (with_at p es w)) ≡ (found (at q es) || (same p q && b))
  written p q [] s w b is here = absurd (none_some here)
  written p q (x ∷ es) s w b is here = written_more p q x es s w b is here (written p q es s w b is)

  -- nothing was at p, where w is put
  first_put : {S : Type 0} (m new : HashMap K V S) (p q : K) (w : V) → get_by (same p) m ≡ None
      → Updates same m new p (Some w) → found (at q new.entries) ≡ (found (at q m.entries) || (same p q && f w))
  first_put m new p q w none put = ap found (put.0 q) ∙ by (same p q) refl
    where
      by : (b : Bool) → same p q ≡ b
          → found (cond b (Some w) (at q m.entries)) ≡ (found (at q m.entries) || (b && f w))
      by true e = sym (ap (λ o. found o || f w) (ap (λ r. at r m.entries) (sym ((tests p q).0 e)) ∙ none))
      by false e = or_false (found (at q m.entries))

-- `==` tests lengths
length_tests : Tests {K = ℕ} (λ a b. a == b)
length_tests a b = (eqb-true a b, eq-eqb a b)

-- two names that are one have one length
same_length : (p q : List ℕ) → ((length p == length q) && same_name p q) ≡ same_name p q
same_length p q = by (same_name p q) refl
  where
    by : (b : Bool) → same_name p q ≡ b → ((length p == length q) && same_name p q) ≡ same_name p q
    by true e =
        let h : (length p == length q) ≡ true = eq-eqb (length p) (length q) (ap length ((bytes_decides p q).0 e)) in
        rw (h, e) refl
    by false e = rw e (and_false (length p == length q))

with_length : (p q : List ℕ) (b : Bool) → ((length p == length q) && (b && same_name p q)) ≡ (b && same_name p q)
with_length p q true = same_length p q
with_length p q false = and_false (length p == length q)

-- `==` of two ends, and that it tests them
abbrev pub same_ends : Ends → Ends → Bool
same_ends a b = (a.source == b.source) && (a.target == b.target)

ends_tests : Tests same_ends
ends_tests a b = (is, λ e. rw e (both (eq-eqb b.source b.source refl) (eq-eqb b.target b.target refl)))
  where
    both : {s t : Bool} → s ≡ true → t ≡ true → (s && t) ≡ true
    both e f = rw (e, f) refl

    is : same_ends a b ≡ true → a ≡ b
    is h = by (a.source == b.source) (a.target == b.target) refl refl h
      where
        by : (s t : Bool) → (a.source == b.source) ≡ s → (a.target == b.target) ≡ t → (s && t) ≡ true → a ≡ b
        by true true e f h = λ j. record { source = eqb-true a.source b.source e j; target = eqb-true a.target b.target f j }
        by true false e f h = absurd (true≢false (sym h))
        by false t e f h = absurd (true≢false (sym h))

pub eqb_flip : (a b : ℕ) → (a == b) ≡ (b == a)
eqb_flip a b = grind (arith, nat_tests)

-- the same ends and b, the other way round
ends_turned : (e : Ends) (i j : ℕ) (b : Bool) → (same_ends e (record { source = i; target = j }) && b) ≡ (b && are_ends i j e)
ends_turned e i j b = rw (eqb_flip e.source i, eqb_flip e.target j) (and_turned (are_ends i j e) b)
  where
    and_turned : (s t : Bool) → (s && t) ≡ (t && s)
    and_turned true true = refl
    and_turned true false = refl
    and_turned false true = refl
    and_turned false false = refl

-- what a change at one key leaves of another
kept_apart : {K X : Type 0} (eq : K → K → Bool) (test : K → Bool) (old new : List (K × X)) → KeepsOthers eq test old new
    → (other : K → Bool) → IsKeyTest eq other → AreApart test other → lookup other new ≡ lookup other old
unfolding KeepsOthers
kept_apart eq test old new kept = kept

-- one more key in a set of keys that are names
module _ {K : Type 0} (items : K → List ℕ) (q : List ℕ) where
  abbrev has : List K → Bool
  has ks = list_any (λ k. same_name q (items k)) ks

  abbrev same_item : K → K → Bool
  same_item x y = same_name (items x) (items y)

  turned : (p : List ℕ) → same_name q p ≡ same_name p q
  turned p = by (same_name p q) refl
    where
      by : (b : Bool) → same_name p q ≡ b → same_name q p ≡ same_name p q
      by true e = (bytes_decides q p).1 (sym ((bytes_decides p q).0 e)) ∙ sym e
      by false e = false_from_ne_true (same_name q p) (λ h. true≢false (sym ((bytes_decides p q).1 (sym ((bytes_decides q p).0 h))) ∙ e)) ∙ sym e

  -- a look-up of q asks for one key and those equal to it
  asks : IsKeyTest same_item (λ k. same_name q (items k))
  asks x y e = ap (λ r. same_name r (items y)) ((bytes_decides q (items x)).0 e)

  abbrev has_key : List (K × ⊤) → Bool
  has_key es = is_some (lookup (λ k. same_name q (items k)) es)

  -- a set after `insert` of a name
  pub key_put : {S : Type 0} (m new : HashMap K ⊤ S) (v : K) (p : List ℕ) → items v ≡ p → Updates same_item m new v (Some tt)
      → has (keys new) ≡ (has (keys m) || same_name p q)
  key_put m new v p is put = sym (is_some-lookup (λ k. same_name q (items k)) new.entries) ∙ by (same_name p q) refl
    where
      by : (b : Bool) → same_name p q ≡ b → has_key new.entries ≡ (has (keys m) || b)
      by true e =
          let here : items v ≡ q = is ∙ (bytes_decides p q).0 e in
          ap (λ r. is_some (lookup (λ k. same_name r (items k)) new.entries)) (sym here) ∙ ap is_some put.1 ∙ sym (or_true (has (keys m)))
      by false e =
          let apart : AreApart (same_item v) (λ k. same_name q (items k)) =
          λ k h. turned (items k) ∙ ap (λ r. same_name r q) (sym ((bytes_decides (items v) (items k)).0 h) ∙ is) ∙ e in
          ap is_some (kept_apart same_item (same_item v) m.entries new.entries put.3 (λ k. same_name q (items k)) asks apart)
          ∙ is_some-lookup (λ k. same_name q (items k)) m.entries
          ∙ or_false (has (keys m))

-- sets of names, each with the length of its names
abbrev Sets : Type 0 → Type 0
Sets S = List (ℕ × HashMap (Vec ℕ Global) ⊤ S)

-- one more name in the sets by length
module _ {S : Type 0} where
  abbrev has_among : Sets S → List ℕ → Bool
  has_among es name = elim (lookup (λ n. length name == n) es) [ None ↦ false | Some known ↦ is_known known name ]

  -- the set of its length becomes another, which has the name too where b is true
  pub name_written : (es new : Sets S) (p q : List ℕ) (old set : HashMap (Vec ℕ Global) ⊤ S) (b : Bool)
      → new ≡ set_value (λ n. length p == n) es set
      → lookup (λ n. length p == n) es ≡ Some old → is_known set q ≡ (is_known old q || (b && same_name p q))
      → has_among new q ≡ (has_among es q || (b && same_name p q))
  name_written es new p q old set b is here more =
      ap (λ xs. has_among xs q) is
      ∙ written (λ a b. a == b) length_tests (λ s. is_known s q) (length p) (length q) es old set (b && same_name p q) more here
      ∙ ap (λ t. has_among es q || t) (with_length p q b)

  -- the first name of its length
  pub name_first : {T : Type 0} (m new : HashMap ℕ (HashMap (Vec ℕ Global) ⊤ S) T) (p q : List ℕ)
      (set : HashMap (Vec ℕ Global) ⊤ S) → get_by (λ n. length p == n) m ≡ None
      → Updates (λ a b. a == b) m new (length p) (Some set) → is_known set q ≡ same_name p q
      → has_among new.entries q ≡ (has_among m.entries q || same_name p q)
  name_first m new p q set none put has =
      first_put (λ a b. a == b) length_tests (λ s. is_known s q) m new (length p) (length q) set none put
      ∙ ap (λ t. has_among m.entries q || ((length p == length q) && t)) has
      ∙ ap (λ t. has_among m.entries q || t) (same_length p q)

-- one more kind between two places
abbrev to : ℕ → ℕ → Ends
to i j = record { source = i; target = j }

pub kind_written : (es new : List (Ends × NameSet)) (e : Ends) (p q : List ℕ) (i j : ℕ) (old set : NameSet)
    → new ≡ set_value (same_ends e) es set
    → lookup (same_ends e) es ≡ Some old → has_name set q ≡ (has_name old q || same_name p q)
    → has_kind new q i j ≡ (has_kind es q i j || goes_between p e q i j)
kind_written es new e p q i j old set is here more =
    ap (λ xs. has_kind xs q i j) is
    ∙ written same_ends ends_tests (λ s. has_name s q) e (to i j) es old set (same_name p q) more here
    ∙ ap (λ t. has_kind es q i j || t) (ends_turned e i j (same_name p q))

-- the first kind between two places
pub kind_first : {S : Type 0} (m new : HashMap Ends NameSet S) (e : Ends) (p q : List ℕ) (i j : ℕ) (set : NameSet)
    → get_by (same_ends e) m ≡ None → Updates same_ends m new e (Some set) → has_name set q ≡ same_name p q
    → has_kind new.entries q i j ≡ (has_kind m.entries q i j || goes_between p e q i j)
kind_first m new e p q i j set none put has =
    first_put same_ends ends_tests (λ s. has_name s q) m new e (to i j) set none put
    ∙ ap (λ t. has_kind m.entries q i j || (same_ends e (to i j) && t)) has
    ∙ ap (λ t. has_kind m.entries q i j || t) (ends_turned e i j (same_name p q))
