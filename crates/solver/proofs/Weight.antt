-- The weight of open branches falls with each split, and with each branch that is closed.
use Rattle.std.proofs.Common.{◌≡◌, ◌≤◌, ◌<◌, inl, inr, ℕ, zero, suc, ◌+◌, ◌-◌, ◌*◌, ◌^◌, Bool, true, false, not, ◌||◌, ◌⊎◌, List, [], ◌∷◌, Some, refl, ap, ◌∙◌, subst, arith, eq-eqb, eqb-true}
use Rattle.std.proofs.{Math.Nat.{pow-le-pow_right, pow-suc, one-le-pow}, lemmas.{List.Sums.{sum_by-cons}, Bool.{ltb-false, or_left, or_right}}}
use Rattle.std.specs.Prelude.{if◌then◌else◌, nat_lt, ◌==◌}
use Rattle.pc_common.proofs.Elements.{In, in_front, in_back, in_map, any_holds, holds_any}
use Rattle.pc_common.proofs.Bools.{true_or_false, or_second}
use Rattle.pc_ground.specs.{Tree.{Tree, both, either, negation, turned, size_of}, declared.version.Version.{Version}}
use Rattle.pc_ground.specs.declared.version.Version.TheVariants.{One, Two}
use Rattle.pc_ground.specs.Refutes.{Branch, Signed, signed, all_signed, subtree_at, asserted, with_side, left_branch, right_branch}
use Rattle.solver.{specs.Weights.{is_sign, under, is_on, pending_ors, pending_splits, weight}, proofs.IsGrown.{asserted_root}}

-- the second list has all that the first has
abbrev pub IsWithin : List ℕ → List ℕ → Type 0
IsWithin ps qs = (p : ℕ) → In p ps → In p qs

on_from_in : (ps : List ℕ) (p : ℕ) → In p ps → is_on ps p ≡ true
on_from_in ps p i = holds_any (λ q. q == p) p ps i (eq-eqb p p refl)

in_from_on : (ps : List ℕ) (p : ℕ) → is_on ps p ≡ true → In p ps
in_from_on ps p e = let a = any_holds (λ q. q == p) ps e in let P : ℕ → Type 0 = λ q. In q ps in subst P (eqb-true a.0 p a.2) a.1

on_more : (ps qs : List ℕ) (p : ℕ) → IsWithin ps qs → is_on ps p ≡ true → is_on qs p ≡ true
on_more ps qs p w e = on_from_in qs p (w p (in_from_on ps p e))

count_more : (c d : Bool) → (c ≡ true → d ≡ true) → (if d then 0 else 1) ≤ (if c then 0 else 1)
count_more true false f = cc (f refl)
count_more c true f = omega arith
count_more c false f = omega arith

sides_more : (ps qs : List ℕ) (p r : ℕ) → IsWithin ps qs → (if is_on qs p || is_on qs r then 0 else 1) ≤ (if is_on ps p || is_on ps r then 0 else 1)
sides_more ps qs p r w = count_more (is_on ps p || is_on ps r) (is_on qs p || is_on qs r) (λ e.
    elim (true_or_false (is_on ps p)) [
      | inl h ↦ or_left (is_on qs p) (is_on qs r) (on_more ps qs p w h)
      | inr h ↦ or_right (is_on qs p) (is_on qs r) (on_more ps qs r w (or_second (is_on ps p) (is_on ps r) h e))
    ])

-- with more positions no more Ors are pending
pub pending_more : {N : Type 0} (t : Tree N) (p : ℕ) (ps qs : List ℕ) → IsWithin ps qs → pending_ors t p qs ≤ pending_ors t p ps
pending_more (both a b) p ps qs w = omega (arith, pending_more a (p + 1) ps qs w, pending_more b (p + 1 + size_of a) ps qs w)
pending_more (either a b) p ps qs w =
    omega (arith, sides_more ps qs (p + 1) (p + 1 + size_of a) w, pending_more a (p + 1) ps qs w, pending_more b (p + 1 + size_of a) ps qs w)
pending_more t p ps qs w = omega arith

-- an Or has no side in the one list, and one in the other
record IsDecidedBy (p : ℕ) (size : ℕ) (ps qs : List ℕ) : Type 0 where
  pub before : (is_on ps (p + 1) || is_on ps (p + 1 + size)) ≡ false
  pub after : (is_on qs (p + 1) || is_on qs (p + 1 + size)) ≡ true

count_less : (c d : Bool) → c ≡ false → d ≡ true → (if d then 0 else 1) < (if c then 0 else 1)
count_less c d e f = rw (e, f) (omega arith)

sides_same : {N : Type 0} (a b c d : Tree N) → Some (either a b) ≡ Some (either c d) → a ≡ c
sides_same a b c d e = (let left : a ≡ c = cc in left)

-- of two parts the one that has the Or counts less, and the other no more
part_less : {N : Type 0} (x y : Tree N) (p q : ℕ) (ps qs : List ℕ) → IsWithin ps qs
    → (nat_lt q (size_of x) ≡ true → pending_ors x (p + 1) qs < pending_ors x (p + 1) ps)
    → (nat_lt q (size_of x) ≡ false → pending_ors y (p + 1 + size_of x) qs < pending_ors y (p + 1 + size_of x) ps)
    → pending_ors (both x y) p qs < pending_ors (both x y) p ps
part_less x y p q ps qs w left right =
    elim (true_or_false (nat_lt q (size_of x))) [
      | inl h ↦ omega (arith, left h, pending_more y (p + 1 + size_of x) ps qs w)
      | inr h ↦ omega (arith, right h, pending_more x (p + 1) ps qs w)
    ]

-- the Or that is decided counts less
pending_one_less : {N : Type 0} (t : Tree N) (p q r : ℕ) (a b : Tree N) (ps qs : List ℕ) → IsWithin ps qs → subtree_at t q ≡ Some (either a b)
    → r ≡ p + q → IsDecidedBy r (size_of a) ps qs → pending_ors t p qs < pending_ors t p ps
pending_one_less (either x y) p zero r a b ps qs w e at d =
    let here : r ≡ p = omega (arith, at) in
    let k = rw (here, ← ap size_of (sides_same x y a b e)) at d in
    let less = count_less (is_on ps (p + 1) || is_on ps (p + 1 + size_of x)) (is_on qs (p + 1) || is_on qs (p + 1 + size_of x)) k.before k.after in
    omega (arith, less, pending_more x (p + 1) ps qs w, pending_more y (p + 1 + size_of x) ps qs w)
pending_one_less (both x y) p (suc q) r a b ps qs w e at d =
    part_less x y p q ps qs w (λ h. pending_one_less x (p + 1) q r a b ps qs w (rw h at e) (omega (arith, at)) d)
    (λ h. pending_one_less y (p + 1 + size_of x) (q - size_of x) r a b ps qs w (rw h at e) (omega (arith, at, ltb-false q (size_of x) h)) d)
pending_one_less (either x y) p (suc q) r a b ps qs w e at d =
    let less = part_less x y p q ps qs w (λ h. pending_one_less x (p + 1) q r a b ps qs w (rw h at e) (omega (arith, at)) d)
    (λ h. pending_one_less y (p + 1 + size_of x) (q - size_of x) r a b ps qs w (rw h at e) (omega (arith, at, ltb-false q (size_of x) h)) d) in
    omega (arith, sides_more ps qs (p + 1) (p + 1 + size_of x) w, less)
pending_one_less t p zero r a b ps qs w e at d = cc
pending_one_less t p (suc q) r a b ps qs w e at d = cc

-- two smaller powers of three are less than one
powers_less : (u v w : ℕ) → v < u → w < u → 3 ^ v + 3 ^ w < 3 ^ u
powers_less zero v w h k = absurd (omega (arith, h))
powers_less (suc u) v w h k =
    let left : 3 ^ v ≤ 3 ^ u = pow-le-pow_right {n = 3} (omega arith) {i = v} {j = u} (omega (arith, h)) in
    let right : 3 ^ w ≤ 3 ^ u = pow-le-pow_right {n = 3} (omega arith) {i = w} {j = u} (omega (arith, k)) in
    let whole : 3 ^ suc u ≡ 3 ^ u * 3 = pow-suc 3 u in
    let pos = one-le-pow u 3 (omega arith) in
    omega (arith, left, right, whole, pos)

weight_cons : {N : Type 0} (t : Tree N) (ps : Branch) (opens : List Branch) → weight t (ps ∷ opens) ≡ 3 ^ pending_splits t ps + weight t opens
unfolding weight
weight_cons t ps opens = sum_by-cons (λ qs. 3 ^ pending_splits t qs) ps opens

pub weight_more : {N : Type 0} (t : Tree N) (ps : Branch) (opens : List Branch) → weight t opens < weight t (ps ∷ opens)
weight_more t ps opens = let pos = one-le-pow (pending_splits t ps) 3 (omega arith) in omega (arith, pos, weight_cons t ps opens)

sign_self : (n : Bool) → is_sign n n ≡ true
sign_self false = refl
sign_self true = refl

sign_is : (n m : Bool) → is_sign n m ≡ true → m ≡ n
sign_is false false e = refl
sign_is true true e = refl
sign_is n m e = cc

-- what is on a branch under a sign is among its positions of this sign, and they alone are
in_under : (n : Bool) (ps : Branch) (p : ℕ) → In (signed n p) ps → In p (under n ps)
in_under n [] p i = absurd i
in_under n (q ∷ ps) p (inl e) =
    let is : is_sign n q.negated ≡ true = ap (λ (x : Signed). is_sign n x.negated) e ∙ sign_self n in
    let here : q.position ≡ p = ap (λ (x : Signed). x.position) e in
    rw is (inl here)
in_under n (q ∷ ps) p (inr i) =
    elim (true_or_false (is_sign n q.negated)) [
      | inl h ↦ rw h (inr (in_under n ps p i))
      | inr h ↦ rw h (in_under n ps p i)
    ]

from_under : (n : Bool) (ps : Branch) (p : ℕ) → In p (under n ps) → In (signed n p) ps
from_under n [] p i = absurd i
from_under n (q ∷ ps) p i =
    elim (true_or_false (is_sign n q.negated)) [
      | inl h ↦ first h (λ j. from_under n ps p j) (rw h at i)
      | inr h ↦ inr (from_under n ps p (rw h at i))
    ]
  where
    first : is_sign n q.negated ≡ true → (In p (under n ps) → In (signed n p) ps) → (q.position ≡ p) ⊎ In p (under n ps) → In (signed n p) (q ∷ ps)
    first h rest (inl e) =
        let same : q ≡ signed n p = ap (λ m. signed m q.position) (sign_is n q.negated h) ∙ ap (signed n) e in
        inl same
    first h rest (inr j) = inr (rest j)

-- the second branch has all that the first has
abbrev pub IsBranchWithin : Branch → Branch → Type 0
IsBranchWithin ps qs = (q : Signed) → In q ps → In q qs

within_under : (n : Bool) (ps qs : Branch) → IsBranchWithin ps qs → IsWithin (under n ps) (under n qs)
within_under n ps qs w p i = in_under n qs p (w (signed n p) (from_under n ps p i))

-- of two counts the one falls, and the other doesn't rise
sums_less : (n : Bool) (f g : Bool → ℕ) → f n < g n → f (not n) ≤ g (not n) → f false + f true < g false + g true
sums_less false f g h k = omega (arith, h, k)
sums_less true f g h k = omega (arith, h, k)

neither : (c d : Bool) → (c ≡ true → ⊥) → (d ≡ true → ⊥) → (c || d) ≡ false
neither true d f g = absurd (f refl)
neither false true f g = absurd (g refl)
neither false false f g = refl

-- fewer Ors are pending on a branch that has a side of one more
pub pending_less : {N : Type 0} (t : Tree N) (n : Bool) (p : ℕ) (a b : Tree N) (ps qs : Branch) → IsBranchWithin ps qs
    → subtree_at (turned n t) p ≡ Some (either a b) → (In (signed n (p + 1)) ps → ⊥) → (In (signed n (p + 1 + size_of a)) ps → ⊥)
    → In (signed n (p + 1)) qs ⊎ In (signed n (p + 1 + size_of a)) qs → pending_splits t qs < pending_splits t ps
pending_less t n p a b ps qs w e no_left no_right some =
    let old = under n ps in
    let new = under n qs in
    let before : (is_on old (p + 1) || is_on old (p + 1 + size_of a)) ≡ false =
    neither (is_on old (p + 1)) (is_on old (p + 1 + size_of a))
    (λ h. no_left (from_under n ps (p + 1) (in_from_on old (p + 1) h)))
    (λ h. no_right (from_under n ps (p + 1 + size_of a) (in_from_on old (p + 1 + size_of a) h))) in
    let after : (is_on new (p + 1) || is_on new (p + 1 + size_of a)) ≡ true =
    elim some [
      | inl h ↦ or_left (is_on new (p + 1)) (is_on new (p + 1 + size_of a)) (on_from_in new (p + 1) (in_under n qs (p + 1) h))
      | inr h ↦ or_right (is_on new (p + 1)) (is_on new (p + 1 + size_of a)) (on_from_in new (p + 1 + size_of a) (in_under n qs (p + 1 + size_of a) h))
    ] in
    let less = pending_one_less (turned n t) 0 p p a b old new (within_under n ps qs w) e (omega arith) (record { before = before; after = after }) in
    let more = pending_more (turned (not n) t) 0 (under (not n) ps) (under (not n) qs) (within_under (not n) ps qs w) in
    sums_less n (λ m. pending_ors (turned m t) 0 (under m qs)) (λ m. pending_ors (turned m t) 0 (under m ps)) less more

side_root : {N : Type 0} (ps : Branch) (n : Bool) (s : Tree N) (p : ℕ) → In (signed n p) (with_side ps n s p)
side_root ps n s p = in_back (signed n p) ps (all_signed n (asserted s p)) (in_map (signed n) p (asserted s p) (asserted_root s p))

side_within : {N : Type 0} (ps : Branch) (n : Bool) (s : Tree N) (p : ℕ) → IsBranchWithin ps (with_side ps n s p)
side_within ps n s p q i = in_front q ps (all_signed n (asserted s p)) i

right_root : {N : Type 0} (v : Version) (ps : Branch) (n : Bool) (p : ℕ) (a b : Tree N) → In (signed n (p + 1 + size_of a)) (right_branch v ps n p a b)
right_root One ps n p a b = side_root ps n b (p + 1 + size_of a)
right_root Two ps n p a b = side_root (with_side ps (not n) (negation a) (p + 1)) n b (p + 1 + size_of a)

right_within : {N : Type 0} (v : Version) (ps : Branch) (n : Bool) (p : ℕ) (a b : Tree N) → IsBranchWithin ps (right_branch v ps n p a b)
right_within One ps n p a b q i = side_within ps n b (p + 1 + size_of a) q i
right_within Two ps n p a b q i =
    side_within (with_side ps (not n) (negation a) (p + 1)) n b (p + 1 + size_of a) q (side_within ps (not n) (negation a) (p + 1) q i)

-- an Or is split that has no side on the branch
pub weight_split : {N : Type 0} (v : Version) (t : Tree N) (ps : Branch) (opens : List Branch) (n : Bool) (p : ℕ) (a b : Tree N)
    → subtree_at (turned n t) p ≡ Some (either a b) → (In (signed n (p + 1)) ps → ⊥) → (In (signed n (p + 1 + size_of a)) ps → ⊥)
    → weight t (left_branch ps n p a ∷ right_branch v ps n p a b ∷ opens) < weight t (ps ∷ opens)
weight_split v t ps opens n p a b e no_left no_right =
    let left = left_branch ps n p a in
    let right = right_branch v ps n p a b in
    let less_left = pending_less t n p a b ps left (side_within ps n a (p + 1)) e no_left no_right (inl (side_root ps n a (p + 1))) in
    let less_right = pending_less t n p a b ps right (right_within v ps n p a b) e no_left no_right (inr (right_root v ps n p a b)) in
    let powers = powers_less (pending_splits t ps) (pending_splits t left) (pending_splits t right) less_left less_right in
    omega (arith, powers, weight_cons t ps opens, weight_cons t left (right ∷ opens), weight_cons t right opens)
