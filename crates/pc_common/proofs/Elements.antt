-- Elements of lists by recursion: what maps and flat maps have, and tests of all elements.
use Rattle.std.proofs.Common.{◌≡◌, ℕ, zero, suc, ◌+◌, ◌<◌, ◌≤◌, ◌⊎◌, inl, inr, Bool, true, List, [], ◌∷◌, ◌++◌, map, length, get_or, refl, sym, ap, subst, arith, ◌∙◌}
use Rattle.std.{proofs.lemmas.Bool.{or_left, or_right}, specs.{Prelude.{Contains}, List.{list_all, list_any, flat_map, range_with_len, filter}}}
use Rattle.pc_common.proofs.Bools.{true_or_false, and_first, and_second, or_second}
pub use Rattle.pc_common.specs.Elements.{In}

pub in_from_contains : {X : Type 0} (x : X) (xs : List X) → Contains xs x → In x xs
in_from_contains x xs has = at x xs has.0 has.1 has.2
  where
    at : {X : Type 0} (x : X) (xs : List X) (k : ℕ) → k < length xs → get_or xs k x ≡ x → In x xs
    at x [] k h e = absurd (omega arith)
    at x (y ∷ ys) zero h e = inl e
    at x (y ∷ ys) (suc k) h e = inr (at x ys k (omega arith) e)

pub contains_from_in : {X : Type 0} (x : X) (xs : List X) → In x xs → Contains xs x
contains_from_in x [] i = absurd i
contains_from_in x (y ∷ ys) (inl e) = (0, omega arith, e)
contains_from_in x (y ∷ ys) (inr i) =
    let rest = contains_from_in x ys i in
    let inside = rest.1 in (suc rest.0, omega arith, rest.2)

pub in_front : {X : Type 0} (x : X) (xs ys : List X) → In x xs → In x (xs ++ ys)
in_front x [] ys i = absurd i
in_front x (z ∷ zs) ys (inl e) = inl e
in_front x (z ∷ zs) ys (inr i) = inr (in_front x zs ys i)

pub in_back : {X : Type 0} (x : X) (xs ys : List X) → In x ys → In x (xs ++ ys)
in_back x [] ys i = i
in_back x (z ∷ zs) ys i = inr (in_back x zs ys i)

pub in_either : {X : Type 0} (x : X) (xs ys : List X) → In x (xs ++ ys) → In x xs ⊎ In x ys
in_either x [] ys i = inr i
in_either x (z ∷ zs) ys (inl e) = inl (inl e)
in_either x (z ∷ zs) ys (inr i) = elim (in_either x zs ys i) [ inl a ↦ inl (inr a) | inr b ↦ inr b ]

pub in_map : {X Y : Type 0} (f : X → Y) (x : X) (xs : List X) → In x xs → In (f x) (map f xs)
in_map f x [] i = absurd i
in_map f x (y ∷ ys) (inl e) = inl (ap f e)
in_map f x (y ∷ ys) (inr i) = inr (in_map f x ys i)

pub from_map : {X Y : Type 0} (f : X → Y) (y : Y) (xs : List X) → In y (map f xs) → (x : X) × In x xs × (f x ≡ y)
from_map f y [] i = absurd i
from_map f y (x ∷ xs) (inl e) = (x, inl refl, e)
from_map f y (x ∷ xs) (inr i) = let r = from_map f y xs i in (r.0, inr r.1, r.2)

pub in_flat : {X Y : Type 0} (f : X → List Y) (x : X) (y : Y) (xs : List X) → In x xs → In y (f x) → In y (flat_map f xs)
in_flat {X} {Y} f x y [] i j = absurd i
in_flat {X} {Y} f x y (z ∷ zs) (inl e) j =
    in_front y (f z) (flat_map f zs) (let P : X → Type 0 = λ w. In y (f w) in subst P (sym e) j)
in_flat {X} {Y} f x y (z ∷ zs) (inr i) j = in_back y (f z) (flat_map f zs) (in_flat f x y zs i j)

pub from_flat : {X Y : Type 0} (f : X → List Y) (y : Y) (xs : List X) → In y (flat_map f xs) → (x : X) × In x xs × In y (f x)
from_flat f y [] i = absurd i
from_flat f y (x ∷ xs) i =
    elim (in_either y (f x) (flat_map f xs) i) [
      | inl here ↦ (x, inl refl, here)
      | inr later ↦ (let r = from_flat f y xs later in (r.0, inr r.1, r.2))
    ]

pub from_range : (a n i : ℕ) → In i (range_with_len a n) → (a ≤ i) × (i < a + n)
from_range a zero i h = absurd h
from_range a (suc n) i (inl e) = (omega arith, omega arith)
from_range a (suc n) i (inr h) = let r = from_range (a + 1) n i h in let low = r.0 in let high = r.1 in (omega arith, omega arith)

-- a test of all elements
pub all_holds : {X : Type 0} (p : X → Bool) (xs : List X) → list_all p xs ≡ true → (x : X) → In x xs → p x ≡ true
all_holds {X} p [] e x i = absurd i
all_holds {X} p (y ∷ ys) e x (inl h) = let P : X → Type 0 = λ z. p z ≡ true in subst P h (and_first (p y) (list_all p ys) e)
all_holds {X} p (y ∷ ys) e x (inr i) = all_holds p ys (and_second (p y) (list_all p ys) e) x i

-- a test of some element
pub any_holds : {X : Type 0} (p : X → Bool) (xs : List X) → list_any p xs ≡ true → (x : X) × In x xs × (p x ≡ true)
any_holds p [] e = cc
any_holds {X} p (y ∷ ys) e =
    elim (true_or_false (p y)) [
      | inl h ↦ (y, inl refl, h)
      | inr h ↦ (let r = any_holds p ys (or_second (p y) (list_any p ys) h e) in (r.0, inr r.1, r.2))
    ]

pub holds_any : {X : Type 0} (p : X → Bool) (x : X) (xs : List X) → In x xs → p x ≡ true → list_any p xs ≡ true
holds_any p x [] i h = absurd i
holds_any {X} p x (y ∷ ys) (inl e) h = or_left (p y) (list_any p ys) (let P : X → Type 0 = λ z. p z ≡ true in subst P (sym e) h)
holds_any p x (y ∷ ys) (inr i) h = or_right (p y) (list_any p ys) (holds_any p x ys i h)

pub in_filter : {X : Type 0} (p : X → Bool) (x : X) (xs : List X) → In x xs → p x ≡ true → In x (filter p xs)
in_filter p x [] i h = absurd i
in_filter {X} p x (y ∷ ys) (inl e) h = rw (ap p e ∙ h) (inl e)
in_filter {X} p x (y ∷ ys) (inr i) h =
    elim (true_or_false (p y)) [ inl t ↦ rw t (inr (in_filter p x ys i h)) | inr f ↦ rw f (in_filter p x ys i h) ]

pub from_filter : {X : Type 0} (p : X → Bool) (x : X) (xs : List X) → In x (filter p xs) → In x xs × (p x ≡ true)
from_filter p x [] i = absurd i
from_filter {X} p x (y ∷ ys) i =
    elim (true_or_false (p y)) [
      | inl t ↦ elim (rw t at i) [
        | inl e ↦ (inl e, let P : X → Type 0 = λ z. p z ≡ true in subst P e t)
        | inr j ↦ (let r = from_filter p x ys j in (inr r.0, r.1))
      ]
      | inr f ↦ (let r = from_filter p x ys (rw f at i) in (inr r.0, r.1))
    ]
